-- What a boundary that is moved, and a version that is deleted, leave of a log.
use Rattle.std.proofs.Common.{◌≡◌, ◌≢◌, ℕ, ℤ, ◌+◌, ◌<◌, ◌≤◌, ◌^◌, true, List, Some, refl, sym, ap, ◌∙◌, arith}
use Rattle.std.specs.Prelude.{decimal}
use Rattle.slate_ids.proofs.DecimalTexts.{decimal_back}
use Rattle.slate_ids.specs.Ids.{is_db_path}
use Rattle.slate_ids.specs.declared.object_path.ObjectPath.{ObjectPath}
use Rattle.slate_store.specs.Store.{Store, object_at, stored, removed}
use Rattle.slate_store.specs.declared.object.StoredObject.{StoredObject}
use Rattle.slate_txn_log.specs.Boundary.{boundary_got}
use Rattle.slate_txn_log.specs.LogPaths.{version_path, boundary_path}
use Rattle.slate_cluster_protocol.specs.Chains.{Link, Log, top, bytes_of, bound_in}
use Rattle.slate_cluster_protocol.specs.Chains.Changed.{Stays}
use Rattle.slate_store.proofs.LookUps.{put_object, at_put, at_else}
use Rattle.slate_cluster_laws.proofs.Stores.{at_left}
use Rattle.slate_cluster_laws.proofs.Paths.{IsElsewhere, versions_apart, boundary_apart}
use Rattle.slate_cluster_protocol.specs.Reach.{IsSpare}
use Rattle.slate_cluster_laws.proofs.Facts.{IsCommitted, IsSound, IsReached, Grows}
use Rattle.slate_cluster_laws.proofs.Puts.{Leaves, committed_small}
use Rattle.slate_cluster_chain_laws.proofs.Spares.{spare_else}

module _ {V A : Type 0} (log : Log V A) (db : List ℕ) (named : is_db_path db ≡ true) (author : A) (s : Store) (c : List (Link V A)) (i : IsSound log db s c) where
  -- the boundary is moved to a number that is not below it, and below the greatest
  module _ (n : ℕ) (moment : ℤ) (up : i.bound ≤ n) (below : n < top c) where
    abbrev moved : Store
    moved = stored (boundary_path log.kind db) (decimal n) moment s

    small : n < 2 ^ 64
    small = let lt = i.small in omega arith

    moved_read : bound_in log db moved ≡ Some n
    moved_read = ap boundary_got (at_put (boundary_path log.kind db) (decimal n) moment s) ∙ decimal_back n small

    moved_object : (o : StoredObject) → object_at (boundary_path log.kind db) moved ≡ Some o → o.e_tag ≡ s.last_tag + 1
    moved_object o at =
        let same : put_object s (decimal n) moment ≡ o = cc (at_put (boundary_path log.kind db) (decimal n) moment s, at) in
        sym (ap (λ (x : StoredObject). x.e_tag) same)

    moved_committed : (k : ℕ) → IsCommitted log db s c k → IsCommitted log db moved c k
    moved_committed k w =
        let k_small = committed_small log db s c i k w in
        record { link = w.link; at = w.at; stands = ap bytes_of (at_else (boundary_path log.kind db) (version_path log.kind db k) (decimal n) moment s (λ e. boundary_apart db named log.kind k k_small (sym e))) ∙ w.stands }

    pub move_leaves : Leaves log db author s c moved c
    move_leaves = record {
      sound = record {
        chain = i.chain;
        small = i.small;
        bound = n;
        read = moved_read;
        below = λ pos. below;
        above = λ k lt k_small. ap bytes_of (at_else (boundary_path log.kind db) (version_path log.kind db k) (decimal n) moment s (λ e. boundary_apart db named log.kind k k_small (sym e))) ∙ i.above k (omega arith) k_small;
        needed = λ k w. moved_committed k (i.needed k w);
        tagged = λ o at. let e = moved_object o at in omega arith;
      };
      grows = record {
        bound = λ b read. let same : n ≡ b = cc (moved_read, read) in (i.bound, i.read, omega arith);
        later = omega arith;
        tags = λ o at le. let e = moved_object o at in absurd (omega arith);
        rises = omega arith;
        spares = λ k w. w;
        kept = λ k l at. at;
      };
      changed = Stays refl;
    }

    pub move_reaches : IsReached log db moved n
    move_reaches = record { reached = λ b read. let same : n ≡ b = cc (moved_read, read) in omega arith }

  -- a spare version at or below the boundary is deleted
  module _ (n : ℕ) (small : n < 2 ^ 64) (due : n ≤ i.bound) (spare : IsSpare log c n) where
    abbrev left : Store
    left = removed (version_path log.kind db n) s

    left_object : object_at (boundary_path log.kind db) left ≡ object_at (boundary_path log.kind db) s
    left_object = at_left (version_path log.kind db n) (boundary_path log.kind db) s (boundary_apart db named log.kind n small)

    left_bound : bound_in log db left ≡ bound_in log db s
    left_bound = ap boundary_got left_object

    left_committed : (k : ℕ) → k ≢ n → IsCommitted log db s c k → IsCommitted log db left c k
    left_committed k ne w =
        let k_small = committed_small log db s c i k w in
        record { link = w.link; at = w.at; stands = ap bytes_of (at_left (version_path log.kind db n) (version_path log.kind db k) s (versions_apart db named log.kind k n k_small small ne)) ∙ w.stands }

    pub delete_leaves : Leaves log db author s c left c
    delete_leaves = record {
      sound = record {
        chain = i.chain;
        small = i.small;
        bound = i.bound;
        read = left_bound ∙ i.read;
        below = i.below;
        above = λ k lt k_small. ap bytes_of (at_left (version_path log.kind db n) (version_path log.kind db k) s (versions_apart db named log.kind k n k_small small (λ (e : k ≡ n). omega arith))) ∙ i.above k lt k_small;
        needed = λ k w. left_committed k (spare_else log c k n spare w) (i.needed k w);
        tagged = λ o at. i.tagged o (sym left_object ∙ at);
      };
      grows = record { bound = λ b read. (b, sym left_bound ∙ read, omega arith); later = omega arith; tags = λ o at le. sym left_object ∙ at; rises = omega arith; spares = λ k w. w; kept = λ k l at. at };
      changed = Stays refl;
    }

module _ {V A : Type 0} (log : Log V A) (db : List ℕ) (s : Store) (c : List (Link V A)) (p : ObjectPath) (away : IsElsewhere log.kind db p) where
  gone_object : object_at (boundary_path log.kind db) (removed p s) ≡ object_at (boundary_path log.kind db) s
  gone_object = at_left p (boundary_path log.kind db) s away.boundary

  gone_bound : bound_in log db (removed p s) ≡ bound_in log db s
  gone_bound = ap boundary_got gone_object

  -- a deletion elsewhere leaves the log as it is
  pub gone_grows : Grows log db s c (removed p s) c
  gone_grows = record { bound = λ b read. (b, sym gone_bound ∙ read, omega arith); later = omega arith; tags = λ o at le. sym gone_object ∙ at; rises = omega arith; spares = λ k w. w; kept = λ k l h. h }

  gone_committed : (k : ℕ) → IsCommitted log db s c k → k < 2 ^ 64 → IsCommitted log db (removed p s) c k
  gone_committed k w small = record { link = w.link; at = w.at; stands = ap bytes_of (at_left p (version_path log.kind db k) s (away.version k small)) ∙ w.stands }

  pub gone_sound : IsSound log db s c → IsSound log db (removed p s) c
  gone_sound i = record {
    chain = i.chain;
    small = i.small;
    bound = i.bound;
    read = gone_bound ∙ i.read;
    below = i.below;
    above = λ k lt small. ap bytes_of (at_left p (version_path log.kind db k) s (away.version k small)) ∙ i.above k lt small;
    needed = λ k w. gone_committed k (i.needed k w) (committed_small log db s c i k (i.needed k w));
    tagged = λ o at. i.tagged o (sym gone_object ∙ at);
  }
