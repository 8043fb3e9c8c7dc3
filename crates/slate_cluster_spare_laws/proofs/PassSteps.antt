-- How a pass over tables goes on: what each answer adds to what it knows.
use Rattle.std.proofs.Common.{◌≡◌, ℕ, ℤ, nat_le, Bool, true, false, List, [], ◌∷◌, map, filter, Option, Some, None, Result, Ok, Err, refl, sym, ap, ◌∙◌, subst, cond, arith}
use Rattle.std.specs.Prelude.{if◌then◌else◌}
use Rattle.slate_ids.specs.declared.error.SlateDBError.{SlateDBError}
use Rattle.slate_ids.specs.declared.gc_message.GcMessage.TheVariants as of
use Rattle.slate_ids.specs.declared.object_path.ObjectPath.{ObjectPath}
use Rattle.slate_ids.specs.declared.object_path.ObjectPath.TheVariants as paths
use Rattle.slate_gc_passes.specs.Candidates.{heads_at}
use Rattle.slate_gc_passes.specs.GcPhase.{GcGoes, collect_on, removed_goes}
use Rattle.slate_gc_passes.specs.Pass.{delete_goes, deletes_next, fetched_goes, list_goes, manifest_goes, record_goes}
use Rattle.slate_gc_passes.specs.Rows.{folder_of}
use Rattle.slate_gc_passes.specs.declared.directory_options.GarbageCollectorDirectoryOptions.{GarbageCollectorDirectoryOptions}
use Rattle.slate_gc_passes.specs.declared.heads.Heads.{Heads}
use Rattle.slate_gc_passes.specs.declared.pass_counts.PassCounts.{PassCounts}
use Rattle.slate_gc_picks.specs.Filter.{picks}
use Rattle.slate_gc_picks.specs.TablePicks.{is_unused, unused_tables, used_tables}
use Rattle.slate_layout_manifests.specs.Decoding.{decoded_manifest}
use Rattle.slate_model.specs.Watermark.{watermark}
use Rattle.slate_model.specs.declared.manifest.Manifest.{Manifest}
use Rattle.slate_model_records.specs.Records.{Record}
use Rattle.slate_script_events.specs.declared.filter_word.FilterWord.{FilterWord}
use Rattle.slate_state_record_updates.specs.RecordRules.{least_ms}
use Rattle.slate_state_referenced.specs.Named.{named_numbers}
use Rattle.slate_state_referenced.specs.Referenced.{ReferencedGoes, rest_goes}
use Rattle.slate_store.specs.Folders.{is_in}
use Rattle.slate_store.specs.Machines.{Stay, End}
use Rattle.slate_store.specs.Store.{Store, listed, metadata}
use Rattle.slate_store.specs.declared.object.ObjectMetadata.{ObjectMetadata}
use Rattle.slate_store.specs.declared.object.StoredObject.{StoredObject}
use Rattle.slate_store.specs.declared.store_answer.StoreAnswer.{StoreAnswer}
use Rattle.slate_store.specs.declared.store_answer.StoreAnswer.TheVariants.{Found, Got, Deleted, Fault}
use Rattle.slate_txn_changes.specs.LogWorks.{WorkGoes}
use Rattle.slate_txn_changes.specs.declared.log_work.LogEnd.TheVariants.{Absent, Unchanged, Committed}
use Rattle.slate_txn_log.specs.Boundary.{boundary_got, greatest}
use Rattle.slate_txn_log.specs.ReadPhase.{Reply, boundary_goes, decoded_goes, got_goes, listed_goes, read_goes}
use Rattle.slate_txn_log.specs.declared.log_kind.LogKind.TheVariants as logs
use Rattle.slate_txn_log.specs.declared.read_phase.ReadPhase.{ReadPhase}
use Rattle.slate_txn_log.specs.declared.read_phase.ReadPhase.TheVariants as reading
use Rattle.slate_cluster_protocol.specs.Chains.{IsChain, Link, link_at}
use Rattle.slate_cluster_protocol.specs.Holding.{Each}
use Rattle.slate_cluster_protocol.specs.Logs.{Author, Chains, manifests, records}
use Rattle.slate_cluster_protocol.specs.Referenced.{IsReferenced}
use Rattle.slate_cluster_protocol.specs.Works.{pass_ways}
use Rattle.slate_cluster_laws.proofs.Facts.{ReadBrings}
use Rattle.slate_cluster_laws.proofs.Passes.{bounded_pass, each_tested, picks_have}
use Rattle.slate_cluster_laws.proofs.Stores.{decides}
use Rattle.slate_cluster_table_laws.proofs.Marks.{IsMarked}
use Rattle.slate_cluster_spare_laws.specs.SpareObjects.{IsSpareObject}
use Rattle.slate_cluster_spare_laws.specs.TableReads.IsLeastRead.{OfRecord}
use Rattle.slate_cluster_spare_laws.proofs.Picks.{picked, read_most, spare}
use Rattle.slate_cluster_spare_laws.proofs.TablePass.{GcHas, HasHeads, HasListed, ReadHas}

-- an object, where it is a table, is of this database
abbrev pub IsOwnTable : List ℕ → ObjectMetadata → Type 0
IsOwnTable db m = (other : List ℕ) (id : ℕ × ℕ) → m.location ≡ paths.Table other id → other ≡ db

-- as the folder of its tables lists them
module _ (db : List ℕ) where
  abbrev is_listed : ObjectPath × StoredObject → Bool
  is_listed o = is_in (folder_of of.Compacted db) o.0

  own_path : (p : ObjectPath) → is_in (folder_of of.Compacted db) p ≡ true → (other : List ℕ) (id : ℕ × ℕ) → p ≡ paths.Table other id → other ≡ db
  own_path (paths.Table of_db of_id) is other id same = let e : other ≡ of_db = cc (same) in e ∙ sym ((decides db of_db).0 is)
  own_path _ is other id same = absurd (cc is)

  pub own_found : (es : List (ObjectPath × StoredObject)) → Each (IsOwnTable db) (map metadata (filter is_listed es))
  own_found [] = tt
  own_found (e ∷ es) = test (is_listed e) refl (own_found es)
    where
      test : (b : Bool) → is_listed e ≡ b → Each (IsOwnTable db) (map metadata (filter is_listed es)) → Each (IsOwnTable db) (map metadata (cond b (e ∷ filter is_listed es) (filter is_listed es)))
      test true is rest = (own_path e.0 is, rest)
      test false is rest = rest

module _ (chains : Chains) (db : List ℕ) where
  -- how it goes on with what it knows
  abbrev pub GoesHas : GcGoes → Type 0
  GoesHas (Stay phase) = GcHas chains db phase
  GoesHas (End phase r) = Unit {0}

  -- ---- the removal of expired checkpoints, and the record

  pub removed_has : (g : WorkGoes Manifest) → GoesHas (removed_goes of.Compacted g)
  removed_has (Stay work) = tt
  removed_has (End work (Ok Absent)) = tt
  removed_has (End work (Ok (Unchanged k m))) = tt
  removed_has (End work (Ok (Committed k m))) = tt
  removed_has (End work (Err e)) = tt

  -- the least that was read is at most that of the greatest record
  pub record_has : (s : Store) → IsChain records (chains logs.Compactions db) → (at : Option ℤ) (now : ℤ) (g : Reply Record) → ReadBrings records db s (chains logs.Compactions db) g → GoesHas (collect_on at now (record_goes g))
  record_has s chain at now (Stay phase) b = tt
  record_has s chain at now (End phase (Ok None)) b = omega arith
  record_has s chain at now (End phase (Ok (Some version))) b =
      read_most (chains logs.Compactions db) chain (least_ms version.1.entries) (OfRecord version.0 b.link b.at (ap (λ (r : Record). least_ms r.entries) (sym b.value)))
  record_has s chain at now (End phase (Err e)) b = tt

  -- ---- the manifest

  module _ (least : ℕ) where
    -- how the read goes on
    abbrev ReplyHas : Reply Manifest → Type 0
    ReplyHas (Stay phase) = ReadHas chains db least phase
    ReplyHas (End phase (Ok (Some version))) = HasListed chains db least version.0
    ReplyHas (End phase (Ok None)) = Unit {0}
    ReplyHas (End phase (Err e)) = Unit {0}

    list_has : (o : Option ℕ) → ((n : ℕ) → o ≡ Some n → HasListed chains db least n) → ReplyHas (listed_goes o)
    list_has None h = tt
    list_has (Some n) h = h n refl

    decoded_has : (n : ℕ) (r : Result Manifest SlateDBError) → HasListed chains db least n → ReplyHas (decoded_goes n r)
    decoded_has n (Ok m) h = h
    decoded_has n (Err e) h = tt

    got_has : (n : ℕ) (o : Option StoredObject) → HasListed chains db least n → ReplyHas (got_goes decoded_manifest n o)
    got_has n None h = h.later.least_most
    got_has n (Some object) h = decoded_has n (decoded_manifest object.bytes) h

    above_has : (n : ℕ) (m : Manifest) (b : Bool) → HasListed chains db least n → ReplyHas (if b then Stay reading.Listing else End reading.Over (Ok (Some (n, m))))
    above_has n m true h = h.later.least_most
    above_has n m false h = h

    bound_has : (n : ℕ) (m : Manifest) (o : Option ℕ) → HasListed chains db least n → ReplyHas (boundary_goes n m o)
    bound_has n m None h = tt
    bound_has n m (Some bound) h = above_has n m (nat_le n bound) h

    read_has : (phase : ReadPhase Manifest) (answer : StoreAnswer) → ((found : List ObjectMetadata) → phase ≡ reading.Listing → answer ≡ Found found → (n : ℕ) → greatest logs.Manifest found ≡ Some n → HasListed chains db least n)
        → ReadHas chains db least phase → ReplyHas (read_goes logs.Manifest decoded_manifest phase answer)
    read_has reading.Listing (Found found) top h = list_has (greatest logs.Manifest found) (top found refl refl)
    read_has (reading.Getting n) (Got object) top h = got_has n object h
    read_has (reading.Bounding n m) (Got object) top h = bound_has n m (boundary_got object) h
    read_has reading.Listing _ top h = tt
    read_has (reading.Getting n) _ top h = tt
    read_has (reading.Bounding n m) _ top h = tt
    read_has reading.Over _ top h = tt

    -- the version that was read is the one that was listed
    heads_have : (n : ℕ) (m : Manifest) → HasListed chains db least n → (l : Link Manifest Author) → link_at n (chains logs.Manifest db) ≡ Some l → l.value ≡ m → HasHeads chains db (heads_at least n m)
    heads_have n m h l at value =
        let there : link_at n (chains logs.Manifest db) ≡ Some h.link = subst (λ (k : ℕ). link_at k (chains logs.Manifest db) ≡ Some h.link) h.number h.later.at in
        let same : l ≡ h.link = cc (at, there) in
        record { listed = h; mark = ap (λ (x : Manifest). watermark x.core) (sym value ∙ ap (λ (x : Link Manifest Author). x.value) same) }

    rest_has : (at : Option ℤ) (now : ℤ) (heads : Heads) (left : List ℕ) (found : List (ℕ × Manifest)) → HasHeads chains db heads → GoesHas (collect_on at now (fetched_goes heads (rest_goes left found)))
    rest_has at now heads [] found h = h
    rest_has at now heads (k ∷ left) found h = h

    reply_has : (s : Store) (at : Option ℤ) (now : ℤ) (g : Reply Manifest) → ReplyHas g → ReadBrings manifests db s (chains logs.Manifest db) g → GoesHas (collect_on at now (manifest_goes least g))
    reply_has s at now (Stay phase) h b = h
    reply_has s at now (End phase (Ok None)) h b = tt
    reply_has s at now (End phase (Ok (Some version))) h b =
        rest_has at now (heads_at least version.0 version.1) (named_numbers version.0 version.1.core.checkpoints) ((version.0, version.1) ∷ []) (heads_have version.0 version.1 h b.link b.at b.value)
    reply_has s at now (End phase (Err e)) h b = tt

    pub manifest_has : (s : Store) (at : Option ℤ) (now : ℤ) (phase : ReadPhase Manifest) (answer : StoreAnswer) → ((found : List ObjectMetadata) → phase ≡ reading.Listing → answer ≡ Found found → (n : ℕ) → greatest logs.Manifest found ≡ Some n → HasListed chains db least n)
        → ReadHas chains db least phase → ReadBrings manifests db s (chains logs.Manifest db) (read_goes logs.Manifest decoded_manifest phase answer)
        → GoesHas (collect_on at now (manifest_goes least (read_goes logs.Manifest decoded_manifest phase answer)))
    manifest_has s at now phase answer top h b = reply_has s at now (read_goes logs.Manifest decoded_manifest phase answer) (read_has phase answer top h) b

  -- the versions that it names
  pub fetched_has : (at : Option ℤ) (now : ℤ) (heads : Heads) (g : ReferencedGoes) → HasHeads chains db heads → GoesHas (collect_on at now (fetched_goes heads g))
  fetched_has at now heads (Stay phase) h = h
  fetched_has at now heads (End phase (Ok versions)) h = h
  fetched_has at now heads (End phase (Err e)) h = tt

  -- ---- the list, and the deletes

  deletes_have : (at : Option ℤ) (now : ℤ) (left : List ObjectMetadata) (counts : PassCounts) → Each (IsSpareObject chains db) left → GoesHas (collect_on at now (deletes_next left counts))
  deletes_have at now [] counts h = tt
  deletes_have at now (m ∷ left) counts h = h

  module _ (chain : IsChain manifests (chains logs.Manifest db)) (heads : Heads) (versions : List (ℕ × Manifest)) (h : HasHeads chains db heads) (got : IsReferenced (chains logs.Manifest db) heads.latest [] versions) (marked : IsMarked h.listed.link.value) where
    got_mark : heads.watermark ≡ watermark got.value.core
    got_mark =
        let l = h.listed.link in
        let there : link_at heads.latest (chains logs.Manifest db) ≡ Some l = subst (λ (k : ℕ). link_at k (chains logs.Manifest db) ≡ Some l) h.listed.number h.listed.later.at in
        let at = got.version.at in
        let same : got.version.link ≡ l = cc (at, there) in
        h.mark ∙ ap (λ (x : Manifest). watermark x.core) (ap (λ (x : Link Manifest Author). x.value) (sym same) ∙ got.version.value)

    unused_spare : (min_age : ℕ) (now : ℤ) (m : ObjectMetadata) (path : ObjectPath) → m.location ≡ path → is_unused min_age now heads.least heads.watermark (used_tables versions) path ≡ true
        → ((other : List ℕ) (id : ℕ × ℕ) → path ≡ paths.Table other id → other ≡ db) → IsSpareObject chains db m
    unused_spare min_age now m (paths.Table other id) at is here =
        let own : other ≡ db = here other id refl in
        let late = subst (λ (w : ℕ). is_unused min_age now heads.least w (used_tables versions) (paths.Table db id) ≡ true) got_mark (subst (λ (d : List ℕ). is_unused min_age now heads.least heads.watermark (used_tables versions) (paths.Table d id) ≡ true) own is) in
        record {
          id = id;
          is = at ∙ ap (λ (d : List ℕ). paths.Table d id) own;
          spare = spare (chains logs.Manifest db) (chains logs.Compactions db) chain heads.latest heads.least versions got h.listed.link h.listed.number h.listed.later marked id
              (picked min_age now heads.least (watermark got.value.core) versions db id late) chains db refl refl;
        }
    unused_spare min_age now m _ at is here = absurd (cc is)

    pub picks_have_spare : (word : FilterWord) (min_age : ℕ) (dry_run : Bool) (now : ℤ) (found : List ObjectMetadata) → Each (IsOwnTable db) found
        → Each (IsSpareObject chains db) (picks (pass_ways word).allows dry_run (unused_tables min_age now heads.least heads.watermark versions found))
    picks_have_spare word min_age dry_run now found own =
        picks_have (IsSpareObject chains db) word dry_run (unused_tables min_age now heads.least heads.watermark versions found)
        (each_tested (IsOwnTable db) (IsSpareObject chains db) (λ m. is_unused min_age now heads.least heads.watermark (used_tables versions) m.location) (λ m is here. unused_spare min_age now m m.location refl is here) found own)

    pub list_goes_has : (word : FilterWord) (options : GarbageCollectorDirectoryOptions) (at : Option ℤ) (now moment : ℤ) (answer : StoreAnswer) → ((found : List ObjectMetadata) → answer ≡ Found found → Each (IsOwnTable db) found)
        → GoesHas (collect_on at moment (list_goes (pass_ways word).allows (pass_ways word).files (bounded_pass of.Compacted options) now heads versions answer))
    list_goes_has word options at now moment (Found found) own = deletes_have at moment (picks (pass_ways word).allows options.dry_run (unused_tables options.min_age now heads.least heads.watermark versions found)) _ (picks_have_spare word options.min_age options.dry_run now found (own found refl))
    list_goes_has word options at now moment _ own = tt

  pub delete_has : (at : Option ℤ) (now : ℤ) (left : List ObjectMetadata) (counts : PassCounts) (answer : StoreAnswer) → Each (IsSpareObject chains db) left → GoesHas (collect_on at now (delete_goes left counts answer))
  delete_has at now [] counts answer h = tt
  delete_has at now (m ∷ left) counts Deleted h = deletes_have at now left _ h.1
  delete_has at now (m ∷ left) counts Fault h = deletes_have at now left _ h.1
  delete_has at now (m ∷ left) counts _ h = tt
