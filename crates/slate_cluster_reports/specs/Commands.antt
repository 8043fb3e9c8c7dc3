-- The commands of the program, and the texts that three of them write.
use Rattle.std.specs.Prelude.{ℕ, ◌&&◌, List, [], ◌∷◌, ◌++◌, Option, Some, None, codes, bytes_eq, if◌then◌else◌, String, string_bytes}
use Rattle.std.specs.declared.alloc.Global.{Global}
use Rattle.slate_cluster_reports.specs.declared.command.Command.{Command}
use Rattle.slate_cluster_reports.specs.declared.command.Command.TheVariants.{Run, RunHelp, Help, Version}

-- the command of a word
abbrev pub word_command : List ℕ → Option Command
word_command w = if bytes_eq w (codes "run") then Some Run else (if bytes_eq w (codes "--help") then Some Help else (if bytes_eq w (codes "--version") then Some Version else None))

-- the command of two words
abbrev pub words_command : List ℕ → List ℕ → Option Command
words_command w v = if bytes_eq w (codes "run") && bytes_eq v (codes "--help") then Some RunHelp else None

-- the command of a command line: it is one word or two
abbrev pub command_of : List (String Global) → Option Command
command_of (w ∷ []) = word_command (string_bytes w)
command_of (w ∷ v ∷ []) = words_command (string_bytes w) (string_bytes v)
command_of _ = None

-- a text with a line feed
abbrev pub line : List ℕ → List ℕ
line text = text ++ 10 ∷ []

-- what the program does and how it is called
unfoldable pub help_text : List ℕ
help_text =
    line (codes "Runs a script of parties at an object store, and reports.")
    ++ line []
    ++ line (codes "  slate run < script.json   reads a script, writes its report")
    ++ line (codes "  slate run --help          writes what a script has")
    ++ line (codes "  slate --help              writes this text")
    ++ line (codes "  slate --version           writes the version")
    ++ line []
    ++ line (codes "Exit codes: 0 done, 2 no such command, 3 reading failed,")
    ++ line (codes "4 writing failed, 5 more than 64 MiB of input, 6 no script,")
    ++ line (codes "7 refused databases, 8 a bad event, 9 out of memory.")
    ++ line (codes "With each but 0, a line on standard error says why.")
    ++ line []
    ++ line (codes "Example:")
    ++ line (codes "  echo '{\"databases\":[{\"path\":\"db\"}],\"events\":[]}' > script.json")
    ++ line (codes "  slate run < script.json")

-- what a script has
unfoldable pub run_help_text : List ℕ
run_help_text =
    line (codes "Reads a script from standard input, one JSON text of at most 64 MiB:")
    ++ line (codes "an object with the arrays \"databases\" and \"events\". Writes a line for")
    ++ line (codes "each event, the greatest committed numbers, the count of deletes and")
    ++ line (codes "the paths of the objects left, and then ok or the first bad event.")
    ++ line []
    ++ line (codes "  database   {\"path\":\"db\"}, and where wanted \"modified\",")
    ++ line (codes "             \"initialized\", \"writer_epoch\", \"compactor_epoch\",")
    ++ line (codes "             \"floor\", \"replay_after\", \"next_wal\", \"extractor\",")
    ++ line (codes "             the arrays \"l0\", \"runs\", \"markers\", \"checkpoints\"")
    ++ line (codes "             and \"strays\", and the object \"record\" of compactions")
    ++ line (codes "  open       {\"open\":1,\"kind\":\"writer\",\"db\":\"db\"}, or of a kind below")
    ++ line (codes "  step       {\"step\":1,\"at\":1000}, and where wanted \"times\":1000 for")
    ++ line (codes "             up to 1000 of them, and \"mark\":\"fail\" for a store call")
    ++ line (codes "             that faults, or \"mark\":\"lost\" for one of which the")
    ++ line (codes "             answer alone is lost")
    ++ line (codes "  stop       {\"stop\":1}")
    ++ line []
    ++ line (codes "A start is one of these, by the kind of its party:")
    ++ line []
    ++ line (codes "  writer     {\"start\":1,\"call\":\"open_writer\"}")
    ++ line (codes "             {\"start\":1,\"call\":\"upload\",\"table\":\"9:1\"}, and where")
    ++ line (codes "             wanted its keys \"first\":\"a\", \"last\":\"z\"")
    ++ line (codes "             {\"start\":1,\"call\":\"flush\",\"tables\":[t]}, and where wanted")
    ++ line (codes "             \"replay_after\":0, \"next_wal\":1, \"seq\":0, \"tick\":0; a t is")
    ++ line (codes "             {\"table\":\"9:1\",\"view\":\"9:2\"}, and where wanted \"prefix\":\"\"")
    ++ line (codes "  compactor  {\"start\":1,\"call\":\"open_compactor\"}")
    ++ line (codes "             {\"start\":1,\"call\":\"refresh\"}")
    ++ line (codes "             {\"start\":1,\"call\":\"schedule\",\"id\":\"8:1\"}")
    ++ line (codes "             {\"start\":1,\"call\":\"finish\",\"id\":\"8:1\"}")
    ++ line (codes "             {\"start\":1,\"call\":\"fail\",\"id\":\"8:1\"}")
    ++ line (codes "             {\"start\":1,\"call\":\"write_manifest\",\"checkpoint\":7}")
    ++ line (codes "             {\"start\":1,\"call\":\"write_record\"}")
    ++ line (codes "             {\"start\":1,\"call\":\"write_state\",\"checkpoint\":7}")
    ++ line (codes "  worker     {\"start\":1,\"call\":\"upload\",\"table\":\"9:1\"}, as a writer's")
    ++ line (codes "             {\"start\":1,\"call\":\"claim\",\"id\":\"8:1\"}")
    ++ line (codes "             {\"start\":1,\"call\":\"report\",\"id\":\"8:1\",\"tables\":[\"9:1\"]}")
    ++ line (codes "  holder     {\"start\":1,\"call\":\"write_checkpoint\",\"id\":7}, and where")
    ++ line (codes "             wanted \"lifetime\":60000, \"source\":6, \"name\":\"n\"")
    ++ line (codes "             {\"start\":1,\"call\":\"replace_checkpoint\",\"old\":6,\"id\":7},")
    ++ line (codes "             and where wanted \"lifetime\":60000, \"source\":6, \"name\":\"n\"")
    ++ line (codes "             {\"start\":1,\"call\":\"refresh_checkpoint\",\"id\":7,")
    ++ line (codes "             \"lifetime\":60000}")
    ++ line (codes "             {\"start\":1,\"call\":\"delete_checkpoint\",\"id\":7}")
    ++ line (codes "  collector  {\"start\":1,\"call\":\"pass\",\"pass\":\"manifest\"}, of which the")
    ++ line (codes "             pass is \"manifest\", \"compactions\" or \"compacted\", and")
    ++ line (codes "             where wanted \"min_age\":300000, \"dry_run\":false,")
    ++ line (codes "             \"filter\":\"all\"; a filter is \"all\", \"none\" or an array of")
    ++ line (codes "             paths")
    ++ line []
    ++ line (codes "An id of a table, a view or a compaction is a text \"ms:tail\" of two")
    ++ line (codes "numbers below 2^48 and 2^80, one of a checkpoint a number below 2^64;")
    ++ line (codes "a party is a number below 2^32. Moments, ages and lifetimes are")
    ++ line (codes "milliseconds. A field of a call that is left out is as it stands here;")
    ++ line (codes "a lifetime, a source or a name is then none. The table of an upload,")
    ++ line (codes "the views of a flush and the checkpoint that a call makes are new ids.")
    ++ line (codes "A script has at most 1000000 events.")
    ++ line (codes "docs/FORMAT.md has all fields and lines.")

-- the name and the version of the program, and of the kit that it is proved with
unfoldable pub version_text : List ℕ
version_text =
    line (codes "buqtarel 0.1.0")
    ++ line (codes "rattle-kit-13f logic dac8208d650f15bf")
