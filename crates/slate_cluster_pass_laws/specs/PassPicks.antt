-- What a pass picks.
use Rattle.std.specs.Prelude.{◌≡◌, ℕ, Bool, List}
use Rattle.slate_ids.specs.declared.gc_message.GcMessage.{GcMessage}
use Rattle.slate_script_events.specs.declared.call.Call.TheVariants.{Pass}
use Rattle.slate_script_events.specs.declared.filter_word.FilterWord.{FilterWord}
use Rattle.slate_cluster_protocol.specs.Calls.{pass_settings}
use Rattle.slate_cluster_protocol.specs.Passes.{picked, picked_so_far}
use Rattle.slate_cluster_protocol.specs.Rows.{Answered}
use Rattle.slate_cluster_protocol.specs.declared.party.Facts.{Facts}

-- a pass picked what its answers to its reads give
abbrev pub PicksAsRead : Facts → GcMessage → ℕ → Bool → FilterWord → List Answered → Type 0
PicksAsRead facts pass min_age dry_run filter answers =
    (picked_so_far (pass_settings pass min_age dry_run) filter answers).objects ≡ picked facts (Pass pass min_age dry_run filter) (pass_settings pass min_age dry_run) filter answers
