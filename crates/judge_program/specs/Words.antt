-- PROMISES entries-as-lines: Spells
-- The request that the words of a command line ask for, by the rules of `clap`.
use Rattle.std.specs.Prelude.{◌≡◌, ℕ, ◌^◌, ◌&&◌, Bool, true, false, List, [], codes}
use Rattle.std.specs.Prelude.{Option, Some, None, if◌then◌else◌, nat_le, nat_lt, option_map}
use Rattle.std.specs.Prelude.{option_and_then}
use Rattle.std.specs.Str.{bytes_eq}
use Rattle.std.specs.Str.Parse.{digits_value, without_leading_plus}
use Rattle.clap.specs.declared.builder.action.ArgAction.TheVariants.{Set, SetTrue}
use Rattle.clap.specs.declared.error.kind.ErrorKind.{ErrorKind}
use Rattle.clap.specs.declared.error.kind.ErrorKind.TheVariants.{DisplayHelp, DisplayVersion, OutOfMemory}
use Rattle.clap.specs.Words.{App, IsAmong, Kinds, Rule, Row, Text, fault_of, first_of}
use Rattle.clap.specs.Words.{new_app, new_rule, subcommand_of, with_rule, with_subcommand}
use Rattle.clap.specs.Simple.{on_top}
use Rattle.program_system.specs.Words.{file_word, is_numeral}
use Rattle.txn_words.specs.declared.holder.Holder.TheVariants.{Begun}
use Rattle.txn_words.specs.Sizes.{max_stripes}
use Rattle.judge_engine.specs.declared.basis.Basis.{Basis}
use Rattle.judge_engine.specs.declared.basis.Basis.TheVariants.{Locks, Commits}
use Rattle.judge_engine.specs.Bases.{HasStripes}
use Rattle.judge_program.specs.declared.words.Order.{Order}
use Rattle.judge_program.specs.declared.words.Order.TheVariants.{Given, Any}
use Rattle.judge_program.specs.declared.words.Request.{Request}
use Rattle.judge_program.specs.declared.words.Request.TheVariants as requests

-- A request of the program. `Check` judges the history file with this name by an order, and shows
-- the order if the flag is true and one was looked for. `Why` does what `Check` does, and says what
-- leads to the bad entry or to the reason, in lines or as a graph if the flag is true. `Watch`
-- judges the entries of standard input by these rules. `Outcomes` reads a script file and a history
-- file, and says what became of each script. `Help` and `Version` show the usage and the version.
pub data Asked : Type 0 where
  Check : Order → Bool → Text → Asked
  Why : Order → Bool → Text → Asked
  Watch : Basis → Asked
  Outcomes : Text → Text → Asked
  Help : Asked
  Version : Asked

abbrev pub asked_of : Request → Asked
asked_of (requests.Check order shows file) = Check order shows file.now
asked_of (requests.Why order as_graph file) = Why order as_graph file.now
asked_of (requests.Watch basis) = Watch basis
asked_of (requests.Outcomes scripts history) = Outcomes scripts.now history.now
asked_of requests.Help = Help
asked_of requests.Version = Version

-- If the request judges entries by locks, there is at least one lock.
abbrev pub HasStripesIf : Asked → Type 0
HasStripesIf (Watch basis) = HasStripes basis
HasStripesIf asked = Unit {0}

-- The command line: `check [RULES] [--show-order] FILE`, `outcomes SCRIPTS HISTORY`,
-- `watch [--commit-order] [--stripes N]` and `why [RULES] [--dot] FILE`, where RULES are
-- `[--commit-order] [--serializable] [--real-time] [--most-branches N]`. Each command is an
-- application of `clap`, and the definitions of `clap` say how its words are read.
abbrev pub flag_word : Text → Rule
flag_word name = record (new_rule name) { long = Some name; action = Some SetTrue }

abbrev pub number_word : Text → Rule
number_word name = record (new_rule name) { long = Some name; action = Some Set }

abbrev pub flagged : Text → App
flagged name = with_rule (new_app name) (flag_word (codes "commit-order"))

abbrev pub ruled : Text → App
ruled name =
    let in_any_order = with_rule (flagged name) (flag_word (codes "serializable")) in
    let in_time = with_rule in_any_order (flag_word (codes "real-time")) in
    with_rule in_time (number_word (codes "most-branches"))

abbrev pub checking : App
checking =
    let shows = with_rule (ruled (codes "check")) (flag_word (codes "show-order")) in
    with_rule shows (file_word (codes "FILE"))

abbrev pub explaining : App
explaining =
    let graph = with_rule (ruled (codes "why")) (flag_word (codes "dot")) in
    with_rule graph (file_word (codes "FILE"))

abbrev pub over_both : App
over_both =
    let scripts = with_rule (new_app (codes "outcomes")) (file_word (codes "SCRIPTS")) in
    with_rule scripts (file_word (codes "HISTORY"))

abbrev pub watching : App
watching = with_rule (flagged (codes "watch")) (number_word (codes "stripes"))

abbrev pub without_commands : App
without_commands =
    on_top (λ s. record s { has_version = true; subcommand_required = true })
    (new_app (codes "judge"))

abbrev pub command_line : App
command_line =
    let check = with_subcommand without_commands checking.top in
    let outcomes = with_subcommand check over_both.top in
    let watch = with_subcommand outcomes watching.top in
    with_subcommand watch explaining.top

-- True if the flag was found and is set.
abbrev pub is_set : Option Text → Bool
is_set None = false
is_set (Some word) = bytes_eq word (codes "true")

-- The number that a word stands for, if the number is from 1 to `max_stripes`. The word must be one
-- or more decimal digits, with or without a plus before them.
abbrev pub stripes_in_word : Text → Option ℕ
stripes_in_word word =
    let digits = without_leading_plus word in
    let stripes = digits_value 10 digits in
    if is_numeral digits && (nat_le 1 stripes && nat_le stripes max_stripes)
    then Some stripes else None

-- The number that a word stands for, if it is below 2^64, written as for `stripes_in_word`.
abbrev pub number_in_word : Text → Option ℕ
number_in_word word =
    let digits = without_leading_plus word in
    let number = digits_value 10 digits in
    if is_numeral digits && nat_lt number (2 ^ 64) then Some number else None

-- The number of branches, given its word if there is one.
abbrev pub branches_for : Option Text → Option ℕ
branches_for None = Some 10000
branches_for (Some word) = number_in_word word

-- The order to judge a file by, given the flags for the order of commits, for any order, for real
-- time, and for an extra (the order or the graph), and the word for the number of branches. If both
-- rules are asked for, or if real time is to count, branches are counted or there is an extra and no
-- order is looked for, the command line is a usage error.
abbrev pub order_for : Bool → Bool → Bool → Bool → Option Text → Option Order
order_for by_commits false false false None = Some (Given by_commits)
order_for by_commits false false false (Some word) = None
order_for false true real_time extra word = option_map (Any real_time) (branches_for word)
order_for true true real_time extra word = None
order_for by_commits false true extra word = None
order_for by_commits false false true word = None

-- The request `Judge` for a file, given the same.
abbrev pub judging : (Order → Bool → Text → Asked) → Bool → Bool → Bool → Bool → Option Text → Text
    → Option Asked
judging Judge by_commits any real_time extra word file =
    option_map (λ order. Judge order extra file) (order_for by_commits any real_time extra word)

-- The rules to judge by. The arguments are the flag, and the word for the number of locks if there
-- is one. If both the flag and the word are given, the command line is a usage error.
abbrev pub basis_for : Bool → Option Text → Option Basis
basis_for true None = Some Commits
basis_for true (Some word) = None
basis_for false None = Some (Locks max_stripes Begun)
basis_for false (Some word) = option_map (λ stripes. Locks stripes Begun) (stripes_in_word word)

-- The request for the outcomes of these files, or None if both files are standard input.
abbrev pub outcomes_for : Text → Text → Option Asked
outcomes_for scripts history =
    if bytes_eq scripts (codes "-") && bytes_eq history (codes "-")
    then None else Some (Outcomes scripts history)

-- The request of the command with this name, given the arguments that were found.
abbrev pub asked_in : Text → List Row → Option Asked
asked_in name rows =
    let by_commits = is_set (first_of (codes "commit-order") rows) in
    let is_serializable = is_set (first_of (codes "serializable") rows) in
    let real_time = is_set (first_of (codes "real-time") rows) in
    let branches = first_of (codes "most-branches") rows in
    let shows = is_set (first_of (codes "show-order") rows) in
    let as_graph = is_set (first_of (codes "dot") rows) in
    if bytes_eq name (codes "check")
    then option_and_then (judging Check by_commits is_serializable real_time shows branches)
    (first_of (codes "FILE") rows)
    else if bytes_eq name (codes "outcomes")
    then option_and_then (λ scripts. option_and_then (outcomes_for scripts)
    (first_of (codes "HISTORY") rows)) (first_of (codes "SCRIPTS") rows)
    else if bytes_eq name (codes "watch")
    then option_map Watch (basis_for by_commits (first_of (codes "stripes") rows))
    else if bytes_eq name (codes "why")
    then option_and_then (judging Why by_commits is_serializable real_time as_graph branches)
    (first_of (codes "FILE") rows)
    else None

-- The request that a command line makes if `clap` returns an error of this kind. If the words ask
-- for help or for the version, `clap` returns an error too, with a kind of its own. For every other
-- kind, the result is `None`.
abbrev pub answer_to : ErrorKind → Option Asked
answer_to DisplayHelp = Some Help
answer_to DisplayVersion = Some Version
answer_to kind = None

-- `kind` is not the error that memory was refused. `what` is the request that `answer_to` gives for
-- errors of this kind, or `None` if the words make no request.
abbrev pub IsRequestOf : ErrorKind → Option Asked → Type 0
IsRequestOf kind what = (kind ≡ OutOfMemory → ⊥) × (what ≡ answer_to kind)

-- If `clap` can return errors for the words, `what` is the request that `answer_to` gives for the
-- kind of one of these errors. If `clap` can return no error, `what` is the request of the command
-- that was found.
abbrev pub SpellsBy : Kinds → Option (Text × List Row) → Option Asked → Type 0
SpellsBy [] found what = what ≡ option_and_then (λ command. asked_in command.0 command.1) found
SpellsBy kinds found what = (kind : ErrorKind) × IsAmong kind kinds × (what ≡ answer_to kind)

-- The words make the request `what`, or for no request if `what` is `None`. The first word is the
-- program's name.
abbrev pub Spells : List Text → Option Asked → Type 0
Spells words what = SpellsBy (fault_of command_line words) (subcommand_of command_line words) what
