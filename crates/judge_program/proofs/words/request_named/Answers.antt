use Rattle.std.proofs.Common.{None, Some, ap, ◌∙◌}
use Rattle.std.specs.Prelude.{option_map}
use Rattle.clap.specs.Words.{found_of}
use Rattle.judge_program.specs.Words.{Check, Watch, Why, asked_of}
use Rattle.judge_program.proofs.Requests.{check_is, why_is, watch_is, outcomes_are, none_found}
use Rattle.judge_program.proofs.words.request_named.Goals as goal

pub returns-in_err-file-in-check-clause-request : goal.returns-in_err-file-in-check-clause-request
returns-in_err-file-in-check-clause-request c = ap (option_map asked_of) c.from_residual.ensures ∙ check_is c.args.name.now (found_of c.args.found.now) c.has_flag-by_commits.result c.has_flag-is_serializable.result c.has_flag-real_time.result c.has_flag-shows_order.result _ None c.in-check.is c.has_flag-by_commits.ensures c.has_flag-is_serializable.ensures c.has_flag-real_time.ensures c.has_flag-shows_order.ensures c.get_str-branches.ensures c.in_err-file-in-check.ensures

pub returns-in_err-order-in-check-clause-request : goal.returns-in_err-order-in-check-clause-request
returns-in_err-order-in-check-clause-request c = ap (option_map asked_of) c.from_residual-in_err-order-in-check.ensures ∙ ap (option_map (λ order. Check order c.has_flag-shows_order.result c.in_ok-file-in-check.file.now)) c.in_err-order-in-check.ensures ∙ check_is c.args.name.now (found_of c.args.found.now) c.has_flag-by_commits.result c.has_flag-is_serializable.result c.has_flag-real_time.result c.has_flag-shows_order.result _ (Some c.in_ok-file-in-check.file.now) c.in-check.is c.has_flag-by_commits.ensures c.has_flag-is_serializable.ensures c.has_flag-real_time.ensures c.has_flag-shows_order.ensures c.get_str-branches.ensures c.in_ok-file-in-check.ensures

pub returns-in_ok-order-in-check-clause-request : goal.returns-in_ok-order-in-check-clause-request
returns-in_ok-order-in-check-clause-request c = ap (option_map (λ order. Check order c.has_flag-shows_order.result c.in_ok-file-in-check.file.now)) c.in_ok-order-in-check.ensures ∙ check_is c.args.name.now (found_of c.args.found.now) c.has_flag-by_commits.result c.has_flag-is_serializable.result c.has_flag-real_time.result c.has_flag-shows_order.result _ (Some c.in_ok-file-in-check.file.now) c.in-check.is c.has_flag-by_commits.ensures c.has_flag-is_serializable.ensures c.has_flag-real_time.ensures c.has_flag-shows_order.ensures c.get_str-branches.ensures c.in_ok-file-in-check.ensures

pub returns-in_err-scripts-in-outcomes-clause-request : goal.returns-in_err-scripts-in-outcomes-clause-request
returns-in_err-scripts-in-outcomes-clause-request c = ap (option_map asked_of) c.from_residual-in_err-scripts-in-outcomes.ensures ∙ none_found c.args.name.now (found_of c.args.found.now) c.in-outcomes.is c.in_err-scripts-in-outcomes.ensures

pub returns-in_err-history-in-outcomes-clause-request : goal.returns-in_err-history-in-outcomes-clause-request
returns-in_err-history-in-outcomes-clause-request c = ap (option_map asked_of) c.from_residual-in_err-history-in-outcomes.ensures ∙ outcomes_are c.args.name.now (found_of c.args.found.now) (Some c.in_ok-scripts-in-outcomes.scripts.now) None c.in-outcomes.is c.in_ok-scripts-in-outcomes.ensures c.in_err-history-in-outcomes.ensures

pub returns-in_ok-history-in-outcomes-clause-request : goal.returns-in_ok-history-in-outcomes-clause-request
returns-in_ok-history-in-outcomes-clause-request c = c.outcomes_of.ensures.request ∙ outcomes_are c.args.name.now (found_of c.args.found.now) (Some c.in_ok-scripts-in-outcomes.scripts.now) (Some c.in_ok-history-in-outcomes.history.now) c.in-outcomes.is c.in_ok-scripts-in-outcomes.ensures c.in_ok-history-in-outcomes.ensures

pub returns-in_err-basis-in-watch-clause-request : goal.returns-in_err-basis-in-watch-clause-request
returns-in_err-basis-in-watch-clause-request c = ap (option_map asked_of) c.from_residual-in_err-basis-in-watch.ensures ∙ ap (option_map Watch) c.in_err-basis-in-watch.ensures.basis ∙ watch_is c.args.name.now (found_of c.args.found.now) c.has_flag-by_commits.result _ c.in-watch.is c.has_flag-by_commits.ensures c.get_str-in-watch.ensures

pub returns-in_ok-basis-in-watch-clause-request : goal.returns-in_ok-basis-in-watch-clause-request
returns-in_ok-basis-in-watch-clause-request c = ap (option_map Watch) c.in_ok-basis-in-watch.ensures.basis ∙ watch_is c.args.name.now (found_of c.args.found.now) c.has_flag-by_commits.result _ c.in-watch.is c.has_flag-by_commits.ensures c.get_str-in-watch.ensures

pub returns-in_err-file-in-why-clause-request : goal.returns-in_err-file-in-why-clause-request
returns-in_err-file-in-why-clause-request c = ap (option_map asked_of) c.from_residual-in_err-file-in-why.ensures ∙ why_is c.args.name.now (found_of c.args.found.now) c.has_flag-by_commits.result c.has_flag-is_serializable.result c.has_flag-real_time.result c.has_flag-as_graph.result _ None c.in-why.is c.has_flag-by_commits.ensures c.has_flag-is_serializable.ensures c.has_flag-real_time.ensures c.has_flag-as_graph.ensures c.get_str-branches.ensures c.in_err-file-in-why.ensures

pub returns-in_err-order-in-why-clause-request : goal.returns-in_err-order-in-why-clause-request
returns-in_err-order-in-why-clause-request c = ap (option_map asked_of) c.from_residual-in_err-order-in-why.ensures ∙ ap (option_map (λ order. Why order c.has_flag-as_graph.result c.in_ok-file-in-why.file.now)) c.in_err-order-in-why.ensures ∙ why_is c.args.name.now (found_of c.args.found.now) c.has_flag-by_commits.result c.has_flag-is_serializable.result c.has_flag-real_time.result c.has_flag-as_graph.result _ (Some c.in_ok-file-in-why.file.now) c.in-why.is c.has_flag-by_commits.ensures c.has_flag-is_serializable.ensures c.has_flag-real_time.ensures c.has_flag-as_graph.ensures c.get_str-branches.ensures c.in_ok-file-in-why.ensures

pub returns-in_ok-order-in-why-clause-request : goal.returns-in_ok-order-in-why-clause-request
returns-in_ok-order-in-why-clause-request c = ap (option_map (λ order. Why order c.has_flag-as_graph.result c.in_ok-file-in-why.file.now)) c.in_ok-order-in-why.ensures ∙ why_is c.args.name.now (found_of c.args.found.now) c.has_flag-by_commits.result c.has_flag-is_serializable.result c.has_flag-real_time.result c.has_flag-as_graph.result _ (Some c.in_ok-file-in-why.file.now) c.in-why.is c.has_flag-by_commits.ensures c.has_flag-is_serializable.ensures c.has_flag-real_time.ensures c.has_flag-as_graph.ensures c.get_str-branches.ensures c.in_ok-file-in-why.ensures
