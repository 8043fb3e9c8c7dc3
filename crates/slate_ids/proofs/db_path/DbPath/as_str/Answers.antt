use Rattle.std.proofs.Common.{ap, ◌∙◌}
use Rattle.slate_ids.specs.Ids.{is_db_path}
use Rattle.slate_ids.proofs.Ascii.{name_utf8}
use Rattle.slate_ids.proofs.db_path.DbPath.as_str.Goals as goal

pub text_of-requires : goal.text_of-requires
text_of-requires c = name_utf8 _ (ap is_db_path c.letters.ensures.letters ∙ c.letters.ensures.name)
