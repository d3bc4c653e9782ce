-- Shows for the rows of the usage, and for lines that ask for no request, what their words ask for,
-- because the definition computes it.
use Rattle.std.proofs.Common.{true, false, inl, List, [], ◌∷◌, Some, None, codes, refl}
use Rattle.clap.specs.declared.error.kind.ErrorKind.TheVariants.{ArgumentConflict, DisplayHelp, DisplayVersion, MissingRequiredArgument, MissingSubcommand, UnknownArgument}
use Rattle.clap.specs.Words.{Text}
use Rattle.clap.proofs.OnLiterals.{clap_on_literals}
use Rattle.txn_words.specs.declared.holder.Holder.TheVariants.{Begun}
use Rattle.judge_engine.specs.declared.basis.Basis.TheVariants.{Locks, Commits}
use Rattle.judge_program.specs.declared.words.Order.TheVariants.{Given, Any}
use Rattle.judge_program.specs.Words.{Spells, Check, Why, Watch, Outcomes, Help, Version}

abbrev request : List Text → List Text
request words = codes "judge" ∷ words

check : Spells (request (codes "check" ∷ codes "a.json" ∷ [])) (Some (Check (Given false) false (codes "a.json")))
unfolding clap_on_literals
check = refl

check_by_commits : Spells (request (codes "check" ∷ codes "--commit-order" ∷ codes "a.json" ∷ [])) (Some (Check (Given true) false (codes "a.json")))
unfolding clap_on_literals
check_by_commits = refl

serializable : Spells (request (codes "check" ∷ codes "--serializable" ∷ codes "a.json" ∷ [])) (Some (Check (Any false 10000) false (codes "a.json")))
unfolding clap_on_literals
serializable = refl

show_order : Spells (request (codes "check" ∷ codes "--show-order" ∷ codes "a.json" ∷ codes "--serializable" ∷ [])) (Some (Check (Any false 10000) true (codes "a.json")))
unfolding clap_on_literals
show_order = refl

in_time : Spells (request (codes "check" ∷ codes "--real-time" ∷ codes "a.json" ∷ codes "--serializable" ∷ [])) (Some (Check (Any true 10000) false (codes "a.json")))
unfolding clap_on_literals
in_time = refl

only_in_time : Spells (request (codes "check" ∷ codes "--real-time" ∷ codes "a.json" ∷ [])) None
unfolding clap_on_literals
only_in_time = refl

commits_in_time : Spells (request (codes "check" ∷ codes "--commit-order" ∷ codes "--real-time" ∷ codes "a.json" ∷ [])) None
unfolding clap_on_literals
commits_in_time = refl

why_in_time : Spells (request (codes "why" ∷ codes "--serializable" ∷ codes "--real-time" ∷ codes "--dot" ∷ codes "a.json" ∷ [])) (Some (Why (Any true 10000) true (codes "a.json")))
unfolding clap_on_literals
why_in_time = refl

most_branches : Spells (request (codes "check" ∷ codes "--serializable" ∷ codes "--most-branches" ∷ codes "0" ∷ codes "a.json" ∷ [])) (Some (Check (Any false 0) false (codes "a.json")))
unfolding clap_on_literals
most_branches = refl

all_branches : Spells (request (codes "why" ∷ codes "--most-branches=18446744073709551615" ∷ codes "--serializable" ∷ codes "a.json" ∷ [])) (Some (Why (Any false 18446744073709551615) false (codes "a.json")))
unfolding clap_on_literals
all_branches = refl

many_branches : Spells (request (codes "check" ∷ codes "--serializable" ∷ codes "--most-branches=18446744073709551616" ∷ codes "a.json" ∷ [])) None
unfolding clap_on_literals
many_branches = refl

branches_by_locks : Spells (request (codes "check" ∷ codes "--most-branches" ∷ codes "7" ∷ codes "a.json" ∷ [])) None
unfolding clap_on_literals
branches_by_locks = refl

no_order : Spells (request (codes "check" ∷ codes "--show-order" ∷ codes "a.json" ∷ [])) None
unfolding clap_on_literals
no_order = refl

two_rules : Spells (request (codes "check" ∷ codes "--commit-order" ∷ codes "--serializable" ∷ codes "a.json" ∷ [])) None
unfolding clap_on_literals
two_rules = refl

watched_in_any_order : Spells (request (codes "watch" ∷ codes "--serializable" ∷ [])) None
unfolding clap_on_literals
watched_in_any_order = (UnknownArgument, inl refl, refl)

flag_behind : Spells (request (codes "check" ∷ codes "-" ∷ codes "--commit-order" ∷ [])) (Some (Check (Given true) false (codes "-")))
unfolding clap_on_literals
flag_behind = refl

why : Spells (request (codes "why" ∷ codes "--" ∷ codes "-a" ∷ [])) (Some (Why (Given false) false (codes "-a")))
unfolding clap_on_literals
why = refl

why_by_commits : Spells (request (codes "why" ∷ codes "--commit-order" ∷ codes "a.json" ∷ [])) (Some (Why (Given true) false (codes "a.json")))
unfolding clap_on_literals
why_by_commits = refl

why_serializable : Spells (request (codes "why" ∷ codes "--serializable" ∷ codes "a.json" ∷ [])) (Some (Why (Any false 10000) false (codes "a.json")))
unfolding clap_on_literals
why_serializable = refl

graph : Spells (request (codes "why" ∷ codes "--dot" ∷ codes "a.json" ∷ codes "--serializable" ∷ [])) (Some (Why (Any false 10000) true (codes "a.json")))
unfolding clap_on_literals
graph = refl

no_graph : Spells (request (codes "why" ∷ codes "--commit-order" ∷ codes "--dot" ∷ codes "a.json" ∷ [])) None
unfolding clap_on_literals
no_graph = refl

graph_of_check : Spells (request (codes "check" ∷ codes "--serializable" ∷ codes "--dot" ∷ codes "a.json" ∷ [])) None
unfolding clap_on_literals
graph_of_check = (UnknownArgument, inl refl, refl)

watch : Spells (request (codes "watch" ∷ [])) (Some (Watch (Locks 4096 Begun)))
unfolding clap_on_literals
watch = refl

watch_by_stripes : Spells (request (codes "watch" ∷ codes "--stripes" ∷ codes "7" ∷ [])) (Some (Watch (Locks 7 Begun)))
unfolding clap_on_literals
watch_by_stripes = refl

with_plus : Spells (request (codes "watch" ∷ codes "--stripes=+0007" ∷ [])) (Some (Watch (Locks 7 Begun)))
unfolding clap_on_literals
with_plus = refl

most_stripes : Spells (request (codes "watch" ∷ codes "--stripes=4096" ∷ [])) (Some (Watch (Locks 4096 Begun)))
unfolding clap_on_literals
most_stripes = refl

watch_by_commits : Spells (request (codes "watch" ∷ codes "--commit-order" ∷ [])) (Some (Watch Commits))
unfolding clap_on_literals
watch_by_commits = refl

outcomes : Spells (request (codes "outcomes" ∷ codes "a.json" ∷ codes "b.json" ∷ [])) (Some (Outcomes (codes "a.json") (codes "b.json")))
unfolding clap_on_literals
outcomes = refl

history_of_standard : Spells (request (codes "outcomes" ∷ codes "a.json" ∷ codes "-" ∷ [])) (Some (Outcomes (codes "a.json") (codes "-")))
unfolding clap_on_literals
history_of_standard = refl

no_stripes : Spells (request (codes "watch" ∷ codes "--stripes" ∷ codes "0" ∷ [])) None
unfolding clap_on_literals
no_stripes = refl

many_stripes : Spells (request (codes "watch" ∷ codes "--stripes" ∷ codes "4097" ∷ [])) None
unfolding clap_on_literals
many_stripes = refl

no_number : Spells (request (codes "watch" ∷ codes "--stripes=x" ∷ [])) None
unfolding clap_on_literals
no_number = refl

both_rules : Spells (request (codes "watch" ∷ codes "--commit-order" ∷ codes "--stripes" ∷ codes "7" ∷ [])) None
unfolding clap_on_literals
both_rules = refl

standard_twice : Spells (request (codes "outcomes" ∷ codes "-" ∷ codes "-" ∷ [])) None
unfolding clap_on_literals
standard_twice = refl

no_command : Spells (request []) None
unfolding clap_on_literals
no_command = (MissingSubcommand, inl refl, refl)

other_command : Spells (request (codes "undo" ∷ codes "a.json" ∷ [])) None
unfolding clap_on_literals
other_command = (UnknownArgument, inl refl, refl)

no_file : Spells (request (codes "check" ∷ [])) None
unfolding clap_on_literals
no_file = (MissingRequiredArgument, inl refl, refl)

two_files : Spells (request (codes "why" ∷ codes "a" ∷ codes "b" ∷ [])) None
unfolding clap_on_literals
two_files = (UnknownArgument, inl refl, refl)

one_file : Spells (request (codes "outcomes" ∷ codes "a" ∷ [])) None
unfolding clap_on_literals
one_file = (MissingRequiredArgument, inl refl, refl)

watched_file : Spells (request (codes "watch" ∷ codes "a" ∷ [])) None
unfolding clap_on_literals
watched_file = (UnknownArgument, inl refl, refl)

stripes_elsewhere : Spells (request (codes "check" ∷ codes "--stripes=7" ∷ codes "a" ∷ [])) None
unfolding clap_on_literals
stripes_elsewhere = (UnknownArgument, inl refl, refl)

flag_twice : Spells (request (codes "check" ∷ codes "--commit-order" ∷ codes "--commit-order" ∷ codes "a" ∷ [])) None
unfolding clap_on_literals
flag_twice = (ArgumentConflict, inl refl, refl)

help : Spells (request (codes "--help" ∷ [])) (Some Help)
unfolding clap_on_literals
help = (DisplayHelp, inl refl, refl)

help_word : Spells (request (codes "help" ∷ [])) (Some Help)
unfolding clap_on_literals
help_word = (DisplayHelp, inl refl, refl)

help_of_command : Spells (request (codes "watch" ∷ codes "-h" ∷ [])) (Some Help)
unfolding clap_on_literals
help_of_command = (DisplayHelp, inl refl, refl)

version : Spells (request (codes "-V" ∷ [])) (Some Version)
unfolding clap_on_literals
version = (DisplayVersion, inl refl, refl)

no_version : Spells (request (codes "check" ∷ codes "-V" ∷ [])) None
unfolding clap_on_literals
no_version = (UnknownArgument, inl refl, refl)
