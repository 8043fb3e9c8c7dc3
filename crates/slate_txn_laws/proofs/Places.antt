-- What a put of a free number leaves of its log.
use Rattle.std.proofs.Common.{◌≡◌, ℕ, ℤ, ◌<◌, ◌≤◌, ◌^◌, true, List, Option, Some, None, IfSome, ◌⊎◌, ⊎_elim, refl, sym, ap, ◌∙◌, subst, arith}
use Rattle.slate_ids.specs.Ids.{is_db_path}
use Rattle.slate_ids.specs.declared.object_path.ObjectPath.{ObjectPath}
use Rattle.slate_store.specs.Store.{Store, object_at, stands_at, stored}
use Rattle.slate_store.specs.declared.object.StoredObject.{StoredObject}
use Rattle.slate_txn_log.specs.Advance.{boundary_at}
use Rattle.slate_txn_log.specs.Boundary.{boundary_got, greater}
use Rattle.slate_txn_log.specs.LogPaths.{version_path, boundary_path}
use Rattle.slate_txn_log.specs.declared.log_kind.LogKind.{LogKind}
use Rattle.slate_txn_laws.specs.Committing.{IsOver, Stands}
use Rattle.slate_txn_laws.specs.Ready.{AreFine, top_of, IsBelow, IsReady, IsGapless, bytes_of, version_at}
use Rattle.slate_store.proofs.LookUps.{at_put, at_else}
use Rattle.slate_txn_laws.proofs.Entries.{fine_after, version_fine, versions_apart, boundary_apart}
use Rattle.slate_txn_laws.proofs.Tops.{top_object, top_stored, IsAtMost, stands_at_most}

-- contents with the same latest version and the same boundary, ready for the next call
pub record SameLatest (db : List ℕ) (log : LogKind) (s t : Store) (top : ℕ) : Type 0 where
  pub latest : top_of db log t ≡ Some top
  pub same_boundary : boundary_at db log t ≡ boundary_at db log s
  pub same_version : version_at db log top t ≡ version_at db log top s
  pub ready : IsReady db log t

below_more : (b n : ℕ) (top : Option ℕ) → b < n → IsBelow b (greater top (Some n))
below_more b n None h = h
below_more b n (Some m) h = omega (arith, h)

over_top : (n : ℕ) (top : Option ℕ) → IsOver n top → greater top (Some n) ≡ Some n
over_top n None h = refl
over_top n (Some m) h = ap Some (omega (arith, h))

le_or_lt : (a b : ℕ) → (a ≤ b) ⊎ (b < a)
le_or_lt a b = grind arith

-- a boundary at or above a number is below the greatest
pub record Passed (top : Option ℕ) (b : ℕ) : Type 0 where
  pub number : ℕ
  pub is : top ≡ Some number
  pub below : b < number

pub passed : (top : Option ℕ) (n b : ℕ) → 0 < n → n ≤ b → IsBelow b top → Passed top b
passed None n b some le h = absurd (omega (arith, some, le, h))
passed (Some m) n b some le h = record { number = m; is = refl; below = h }

-- a number at or below the greatest
pub record Reached (top : Option ℕ) (n : ℕ) : Type 0 where
  pub number : ℕ
  pub is : top ≡ Some number
  pub reached : n ≤ number

reached : (n : ℕ) (top : Option ℕ) (log : LogKind) (db : List ℕ) → IsAtMost log db n top → Reached top n
reached n None log db h = absurd h
reached n (Some m) log db h = record { number = m; is = refl; reached = h }

module _ (db : List ℕ) (log : LogKind) (s : Store) (named : is_db_path db ≡ true) (ready : IsReady db log s) where
  pub ready_at : (b : ℕ) → boundary_at db log s ≡ Some b → IsBelow b (top_of db log s)
  ready_at b at = subst (λ (o : Option ℕ). IfSome o (λ b. IsBelow b (top_of db log s))) at ready.below

  pub same_kept : (top : ℕ) → top_of db log s ≡ Some top → SameLatest db log s s top
  same_kept top at = record { latest = at; same_boundary = refl; same_version = refl; ready = ready }

  module _ (n : ℕ) (bytes : List ℕ) (moment : ℤ) (small : n < 2 ^ 64) where
    abbrev own : ObjectPath
    own = version_path log db n

    abbrev pub put : Store
    put = stored own bytes moment s

    pub reached_by : (x : StoredObject) → object_at own s ≡ Some x → Reached (top_of db log s) n
    reached_by x at = reached n (top_of db log s) log db (stands_at_most log db named n small s x ready.fine at)

    module _ (free : object_at own s ≡ None) where
      pub put_boundary : boundary_at db log put ≡ boundary_at db log s
      put_boundary = ap boundary_got (at_else own (boundary_path log db) bytes moment s (boundary_apart db named log n small))

      put_top : top_of db log put ≡ greater (top_of db log s) (Some n)
      put_top = top_stored log db n bytes moment s free

      put_fine : AreFine put.objects
      put_fine = fine_after own bytes moment s (version_fine db named log n small) ready.fine

      ready_with : (b : ℕ) (top : Option ℕ) → boundary_at db log put ≡ Some b → top_of db log put ≡ top → IsBelow b top → IsReady db log put
      ready_with b top at is h = record { fine = put_fine; below = subst (λ (o : Option ℕ). IfSome o (λ b. IsBelow b (top_of db log put))) (sym at) (subst (IsBelow b) (sym is) h) }

      gapless_over : (b : ℕ) (top : Option ℕ) → boundary_at db log s ≡ Some b → top_of db log s ≡ top → b < n → IsGapless db log s → IsOver n top
      gapless_over b None at is lt h = tt
      gapless_over b (Some m) at is lt h =
          let each : (k : ℕ) → b < k → k ≤ m → stands_at (version_path log db k) s ≡ true =
          subst (λ (o : Option ℕ). IfSome o (λ m. (k : ℕ) → b < k → k ≤ m → stands_at (version_path log db k) s ≡ true)) is
          (subst (λ (o : Option ℕ). IfSome o (λ b. IfSome (top_of db log s) (λ m. (k : ℕ) → b < k → k ≤ m → stands_at (version_path log db k) s ≡ true))) at h) in
          ⊎_elim (λ (le : n ≤ m). absurd (cc (each n lt le, free))) (λ (over : m < n). over) (le_or_lt n m)

      pub put_stands : (b : ℕ) → boundary_at db log s ≡ Some b → b < n → Stands db log s put n bytes
      put_stands b at lt = record {
        stands = ap bytes_of (at_put own bytes moment s);
        boundary = b;
        read = put_boundary ∙ at;
        above = lt;
        latest = λ h. put_top ∙ over_top n (top_of db log s) (⊎_elim (λ (g : IsGapless db log s). gapless_over b (top_of db log s) at refl lt g) (λ (o : IsOver n (top_of db log s)). o) h);
      }

      pub put_ready : (b : ℕ) → boundary_at db log s ≡ Some b → b < n → IsReady db log put
      put_ready b at lt = ready_with b (greater (top_of db log s) (Some n)) (put_boundary ∙ at) put_top (below_more b n (top_of db log s) lt)

      -- a log whose boundary is not a number
      pub bad_ready : boundary_at db log s ≡ None → IsReady db log put
      bad_ready at = record { fine = put_fine; below = subst (λ (o : Option ℕ). IfSome o (λ b. IsBelow b (top_of db log put))) (sym (put_boundary ∙ at)) tt }

      -- a put at or below the boundary changes nothing of the latest version
      pub put_kept : (b m : ℕ) → boundary_at db log s ≡ Some b → top_of db log s ≡ Some m → n ≤ b → b < m → SameLatest db log s put m
      put_kept b m at is le lt =
          let top : top_of db log put ≡ Some m = put_top ∙ (ap (λ (o : Option ℕ). greater o (Some n)) is ∙ ap Some (omega (arith, le, lt))) in
          let has = top_object log db s m ready.fine is in
          record {
            latest = top;
            same_boundary = put_boundary;
            same_version = ap bytes_of (at_else own (version_path log db m) bytes moment s (versions_apart db named log m n has.small small (λ (e : m ≡ n). absurd (omega (arith, e, le, lt)))));
            ready = ready_with b (Some m) (put_boundary ∙ at) top lt;
          }
