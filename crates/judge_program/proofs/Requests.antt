-- The request of a command, given what was found for its arguments.
use Rattle.std.proofs.Common.{◌≡◌, Bool, Option, None, codes, refl, sym, ap, ap₂, ◌∙◌}
use Rattle.std.specs.Prelude.{option_and_then, option_map}
use Rattle.clap.specs.declared.parser.matches.Found.{Found}
use Rattle.clap.specs.Words.{Text, first_of, first_value, rows_of}
use Rattle.clap.proofs.WalkLemmas.{first_value-rows}
use Rattle.judge_program.specs.declared.words.Order.{Order}
use Rattle.judge_program.specs.Words.{Asked, Check, Watch, Why, asked_in, basis_for, is_set, judging, outcomes_for}

abbrev pub set_in : Text → Found → Bool
set_in name found = is_set (first_of name (rows_of found))

abbrev pub flag_in : Found → Bool
flag_in found = set_in (codes "commit-order") found

abbrev pub judged_in : (Order → Bool → Text → Asked) → Text → Found → Option Asked
judged_in Judge extra found = option_and_then (judging Judge (flag_in found) (set_in (codes "serializable") found) (set_in (codes "real-time") found) (set_in extra found) (first_of (codes "most-branches") (rows_of found))) (first_of (codes "FILE") (rows_of found))

judged : (Judge : Order → Bool → Text → Asked) (name : Text) (found : Found) (flag any time extra : Bool) (word file : Option Text) → flag ≡ flag_in found → any ≡ set_in (codes "serializable") found → time ≡ set_in (codes "real-time") found → extra ≡ set_in name found
    → word ≡ first_value found (codes "most-branches") → file ≡ first_value found (codes "FILE") → option_and_then (judging Judge flag any time extra word) file ≡ judged_in Judge name found
judged Judge name found flag any time extra word file set any_set time_set extra_set word_is is =
    ap₂ (λ (b t : Bool). option_and_then (judging Judge b any t extra word) file) set time_set
    ∙ ap₂ (λ (b e : Bool). option_and_then (judging Judge (flag_in found) b (set_in (codes "real-time") found) e word) file) any_set extra_set
    ∙ ap₂ (λ (w f : Option Text). option_and_then (judging Judge (flag_in found) (set_in (codes "serializable") found) (set_in (codes "real-time") found) (set_in name found) w) f) (word_is ∙ first_value-rows found (codes "most-branches")) (is ∙ first_value-rows found (codes "FILE"))

pub check_is : (name : Text) (found : Found) (flag any time shows : Bool) (word file : Option Text) → name ≡ codes "check" → flag ≡ flag_in found → any ≡ set_in (codes "serializable") found → time ≡ set_in (codes "real-time") found → shows ≡ set_in (codes "show-order") found
    → word ≡ first_value found (codes "most-branches") → file ≡ first_value found (codes "FILE") → option_and_then (judging Check flag any time shows word) file ≡ asked_in name (rows_of found)
check_is name found flag any time shows word file named set any_set time_set shows_set word_is is =
    judged Check (codes "show-order") found flag any time shows word file set any_set time_set shows_set word_is is ∙ ap (λ given. asked_in given (rows_of found)) (sym named)

pub why_is : (name : Text) (found : Found) (flag any time graph : Bool) (word file : Option Text) → name ≡ codes "why" → flag ≡ flag_in found → any ≡ set_in (codes "serializable") found → time ≡ set_in (codes "real-time") found → graph ≡ set_in (codes "dot") found
    → word ≡ first_value found (codes "most-branches") → file ≡ first_value found (codes "FILE") → option_and_then (judging Why flag any time graph word) file ≡ asked_in name (rows_of found)
why_is name found flag any time graph word file named set any_set time_set graph_set word_is is =
    judged Why (codes "dot") found flag any time graph word file set any_set time_set graph_set word_is is ∙ ap (λ given. asked_in given (rows_of found)) (sym named)

pub watch_is : (name : Text) (found : Found) (flag : Bool) (word : Option Text) → name ≡ codes "watch" → flag ≡ flag_in found → word ≡ first_value found (codes "stripes")
    → option_map Watch (basis_for flag word) ≡ asked_in name (rows_of found)
watch_is name found flag word named set is =
    ap₂ (λ (b : Bool) (w : Option Text). option_map Watch (basis_for b w)) set (is ∙ first_value-rows found (codes "stripes"))
    ∙ ap (λ given. asked_in given (rows_of found)) (sym named)

abbrev pub both_for : Option Text → Option Text → Option Asked
both_for scripts history = option_and_then (λ s. option_and_then (outcomes_for s) history) scripts

pub outcomes_are : (name : Text) (found : Found) (scripts history : Option Text) → name ≡ codes "outcomes" → scripts ≡ first_value found (codes "SCRIPTS") → history ≡ first_value found (codes "HISTORY")
    → both_for scripts history ≡ asked_in name (rows_of found)
outcomes_are name found scripts history named left right =
    ap₂ both_for (left ∙ first_value-rows found (codes "SCRIPTS")) (right ∙ first_value-rows found (codes "HISTORY"))
    ∙ ap (λ given. asked_in given (rows_of found)) (sym named)

pub none_found : (name : Text) (found : Found) → name ≡ codes "outcomes" → None ≡ first_value found (codes "SCRIPTS") → None ≡ asked_in name (rows_of found)
none_found name found named none = outcomes_are name found None (first_value found (codes "HISTORY")) named none refl
