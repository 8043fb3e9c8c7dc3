use Rattle.std.proofs.Common.{rules, ◌≡◌, None, sym, ◌∙◌}
use Rattle.std.specs.List.Sorted.{IsStrictlySortedBy}
use Rattle.std.specs.Map.{keys_of, lookup, remove_entry, set_value}
use Rattle.std.specs.BTreeMap.{is_at}
use Rattle.slate_ids.specs.Ulids.{id_cmp as ulid_cmp}
use Rattle.slate_cluster_protocol.proofs.TakenBack.{none_set}
use Rattle.slate_cluster_protocol.proofs.Undone.{new_one_gone, old_one_known}
use Rattle.slate_cluster_protocol.proofs.uploads.Uploads.take_back.Goals as goal
use Rattle.slate_cluster_protocol.proofs.uploads.Uploads.take_back.Goals.{in-Some+in-Some-remove-4+in-Some-remove-5, in-Some+in-Some-remove-4+in-None-1, in-Some+in-None-3, in-None-4}
use Rattle.slate_cluster_protocol.proofs.uploads.Uploads.take_back.Goals.{in-Some+in-Some-known-info-4, in-Some+in-None-4, in-None-5}
use Rattle.slate_cluster_protocol.proofs.uploads.Uploads.take_back.Goals.{in-Some+in-Some-info-4, in-Some+in-None-5, in-None-6}

-- the table was new
pub returns-in-None : goal.returns-in-None
returns-in-None c =
    let removed : c.remove.new.self.entries ≡ remove_entry (is_at (ulid_cmp c.args.table.now)) c.args.self.now = search rules in
    let left : c.match-remove.self ≡ c.remove.new.self.entries =
    elim c.match-remove.branch [ in-Some+in-Some-remove-4+in-Some-remove-5 w ↦ w.self-is | in-Some+in-Some-remove-4+in-None-1 w ↦ w.self-is | in-Some+in-None-3 w ↦ w.self-is | in-None-4 w ↦ w.self-is ] in
    new_one_gone c.args.table.now c.args.self.now _ c.args.before c.in-None.is (left ∙ removed)

-- the table was there
pub returns-in-Some-get_mut : goal.returns-in-Some-get_mut
returns-in-Some-get_mut c =
    let sorted : IsStrictlySortedBy ulid_cmp (keys_of c.args.self.now) = search rules in
    let kept : (c.get_mut.follows.lender c.in-Some.info).entries ≡ set_value (is_at (ulid_cmp c.args.table.now)) c.args.self.now c.in-Some.info = search rules in
    let left : c.match-known-info-3.self ≡ set_value (is_at (ulid_cmp c.args.table.now)) c.args.self.now c.in-Some.info =
    elim c.match-known-info-3.branch [ in-Some+in-Some-known-info-4 w ↦ w.self-is ∙ kept | in-Some+in-None-4 w ↦ w.self-is ∙ kept | in-None-5 w ↦ w.self-is ∙ kept ] in
    old_one_known c.args.table.now c.args.self.now _ c.args.before c.in-Some.info c.in-Some.is sorted left

-- a table that was there is found
pub returns-in_default : goal.returns-in_default
returns-in_default c =
    let sorted : IsStrictlySortedBy ulid_cmp (keys_of c.args.self.now) = search rules in
    let none : lookup (is_at (ulid_cmp c.args.table.now)) c.args.self.now ≡ None = search rules in
    let kept : c.get_mut.follows.lender-at-none.entries ≡ c.args.self.now = search rules in
    let left : c.match-info-3.self ≡ c.args.self.now =
    elim c.match-info-3.branch [ in-Some+in-Some-info-4 w ↦ w.self-is ∙ kept | in-Some+in-None-5 w ↦ w.self-is ∙ kept | in-None-6 w ↦ w.self-is ∙ kept ] in
    old_one_known c.args.table.now c.args.self.now _ c.args.before c.in-Some.info c.in-Some.is sorted
    (left ∙ sym (none_set (is_at (ulid_cmp c.args.table.now)) c.args.self.now c.in-Some.info none))
