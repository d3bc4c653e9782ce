use Rattle.std.proofs.Common.{◌≡◌, ℕ, ◌==◌, ◌++◌, ◌∷◌, [], List, take, Option, ap, sym, ◌∙◌}
use Rattle.std.specs.Prelude.{◌&&◌, nat_eq, string_bytes}
use Rattle.std.specs.Option.{option_eq}
use Rattle.txn_words.specs.declared.entry.Entry.{Entry}
use Rattle.txn_words.specs.Kinds.{caller_of}
use Rattle.txn_trace.proofs.Pushes.{txn_in-push}
use Rattle.bad_entry.specs.Desks.{txn_in}
use Rattle.bad_entry.proofs.Steps.{next_take}
use Rattle.judge_engine.specs.ReasonLines.{is_of}
use Rattle.judge_engine.proofs.Listed.{grown_where}
use Rattle.judge_engine.proofs.lines.put_entries_of.Goals as goal

pub loop-index-preserved : goal.loop-index-preserved
loop-index-preserved c =
    let i = c.loop-index.index in
    let h = c.args.entries.now in
    let e = c.entry-entry.result in
    let next = next_take i h e c.index-entries-index.result c.loop-index-test.true c.entry-entry.ensures c.index-entries-index.is in
    let now : c.next_txn-now.result ≡ txn_in (take i h ++ e ∷ []) c.args.caller = c.next_txn-now.ensures (txn_in (take i h)) c.loop-index.invariant.now ∙ sym (ap (λ (f : ℕ → Option ℕ). f c.args.caller) (txn_in-push (take i h) e)) in
    let chosen : c.is_of-is_chosen.result ≡ is_of c.args.caller c.args.txn (take i h) e = c.is_of-is_chosen.ensures ∙ ap (λ (o : Option ℕ). (caller_of e == c.args.caller) && option_eq nat_eq o c.args.txn) now in
    record {
      now = now ∙ ap (λ (g : List Entry). txn_in g c.args.caller) (sym next);
      written = grown_where (is_of c.args.caller c.args.txn) (string_bytes c.put_if.new.text) (string_bytes c.loop-index.text) (string_bytes c.args.text.now) h i e c.is_of-is_chosen.result c.in_ok-put_if.ensures c.loop-index.invariant.written chosen c.loop-index-test.true next;
    }
