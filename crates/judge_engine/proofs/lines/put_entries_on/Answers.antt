use Rattle.std.proofs.Common.{◌≡◌, ◌+◌, ◌≤◌, ◌++◌, ◌∷◌, [], List, length, take, drop, ap, subst, sym, ◌∙◌, arith, length-take-le}
use Rattle.std.proofs.lemmas.List.{take-append-drop}
use Rattle.std.specs.Prelude.{◌&&◌, nat_le, string_bytes}
use mathlib.Core.List.{IsPrefix}
use Rattle.txn_words.specs.declared.entry.Entry.{Entry}
use Rattle.history_check.specs.Callers.{HaveEntered}
use Rattle.bad_entry.proofs.Steps.{next_take}
use Rattle.judge_engine.specs.ReasonLines.{is_on}
use Rattle.judge_engine.proofs.Listed.{grown_where}
use Rattle.judge_engine.proofs.lines.put_entries_on.Goals as goal

pub loop-index-preserved : goal.loop-index-preserved
loop-index-preserved c =
    let i = c.loop-index.index in
    let h = c.args.entries.now in
    let e = c.entry-entry.result in
    let next = next_take i h e c.index-entries-index.result c.loop-index-test.true c.entry-entry.ensures c.index-entries-index.is in
    let few : i ≤ length h = omega (arith, c.loop-index-test.true) in
    let index : i ≡ length (take i h) = sym (length-take-le i h few) in
    let front : IsPrefix (take i h ++ e ∷ []) h = (drop (i + 1) h, ap (λ (g : List Entry). g ++ drop (i + 1) h) (sym next) ∙ take-append-drop (i + 1) h) in
    let shaped = c.requires.shape (take i h) e front in
    let chosen = c.is_on_since-is_chosen.ensures (take i h) c.loop-index.invariant.entered index in
    record {
      entered = subst (λ (g : List Entry). HaveEntered g c.enter.new.self) (sym next) (c.enter.ensures (take i h) (c.in_ok-reserve.ensures.same (take i h) c.loop-index.invariant.entered) shaped);
      written = grown_where (λ g x. nat_le c.args.first (length g) && is_on c.args.key g x) (string_bytes c.put_if.new.text) (string_bytes c.loop-index.text) (string_bytes c.args.text.now) h i e c.is_on_since-is_chosen.result c.in_ok-put_if.ensures c.loop-index.invariant.written chosen c.loop-index-test.true next;
    }
