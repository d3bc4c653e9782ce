-- If scripts were mixed on a core, the line with the core's history is a mixture of these scripts.
use Rattle.std.proofs.Common.{◌≡◌, ℕ, ◌<◌, List, Ok, ap, subst, ◌∙◌}
use Rattle.std.specs.List.{All}
use Rattle.txn_words.specs.declared.holder.Holder.TheVariants.{Now}
use Rattle.txn_words.specs.declared.entry.Entry.{Entry}
use Rattle.txn_words.specs.Sizes.{Sizes}
use Rattle.txn_words.specs.Kinds.{caller_of}
use Rattle.txn_trace.specs.Legal.{IsLegal}
use Rattle.txn_files.specs.HistoryText.{text_of_history}
use Rattle.txn_files.specs.ScriptFile.{scripts_of}
use Rattle.txn_words.specs.Work.{Work}
use Rattle.boost_core.specs.Machine.{State, holder_by}
use Rattle.boostmap_engine.specs.Crews.{IsMixed}
use Rattle.boostmap_engine.specs.Mixture.{IsMixtureOf}
use Rattle.boostmap_engine.specs.Report.{line}

pub mixture_is : (bytes : List ℕ) (work : Work) (seed : ℕ) (state : State) (trace : List Entry) (version stripes : ℕ) → scripts_of bytes ≡ Ok work → IsMixed work seed state → trace ≡ state.history
    → IsLegal (holder_by state.words) state.limits.stripes state.history → All (λ e. caller_of e < state.limits.callers) state.history → version ≡ work.version → stripes ≡ work.sizes.stripes → IsMixtureOf seed bytes (line (text_of_history version stripes trace))
mixture_is bytes work seed state trace version stripes file mixed trace_is legal callers version_is stripes_is = (
  work,
  file,
  record {
    core = state;
    mixed = mixed;
    legal = subst (λ (sizes : Sizes). IsLegal Now sizes.stripes state.history) mixed.limits (subst (λ words. IsLegal (holder_by words) state.limits.stripes state.history) mixed.words legal);
    callers = subst (λ (sizes : Sizes). All (λ e. caller_of e < sizes.callers) state.history) mixed.limits callers;
    plays = mixed.plays;
    whole = ap line (ap (λ n. text_of_history n stripes trace) version_is ∙ ap (λ n. text_of_history work.version n trace) stripes_is ∙ ap (text_of_history work.version work.sizes.stripes) trace_is);
  },
)
