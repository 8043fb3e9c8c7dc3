use Rattle.std.proofs.Common.{refl}
use Rattle.slate_script_databases.proofs.prefixes.named_prefixes.Goals as goal

pub returns : goal.returns
returns c = rw (c.in_ok-push_prefixes-3.ensures, c.as_slice-3.ensures, c.in_ok-push_prefixes-2.ensures, c.as_slice-2.ensures, c.in_ok-push_prefixes.ensures, c.as_slice.ensures, c.new-named.ensures) refl
