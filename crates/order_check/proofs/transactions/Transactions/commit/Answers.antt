use Rattle.std.proofs.Common.{◌≡◌, ℕ, ◌+◌, ◌<◌, arith, vec_len, ◌∷◌, ◌++◌, [], Some, Option, refl, sym, ap, subst, ◌∙◌, length, get_or, List}
use Rattle.txn_words.specs.declared.entry.Entry.TheVariants.{Began, Committed}
use Rattle.txn_trace.specs.History.{commits}
use Rattle.txn_trace.proofs.Running.{has_txn}
use mathlib.Core.Logic.{inl}
use Rattle.serial_check.specs.Serializable.{txn_in}
use Rattle.order_check.specs.Accesses.{accesses_of, first_torn}
use Rattle.order_check.specs.Kept.{HaveAccesses}
use Rattle.order_check.specs.Outcomes.{ArePlain}
use Rattle.order_check.specs.Timing.{AreBegun}
use Rattle.order_check.proofs.Gathering.{plain_more}
use Rattle.order_check.proofs.EntrySteps.{same_default, newest_same, commits_more, accessed_more}
use Rattle.order_check.proofs.SinceSteps.{HaveSince, begun_more, begun_same, since_more}
use Rattle.order_check.proofs.transactions.Transactions.commit.Goals as goal

pub invariant_of-self-2 : goal.invariant_of-self-2
invariant_of-self-2 c = record {
  all = c.args.self.now.all;
  all_begun = c.args.self.now.all_begun;
  timing =
      let begun = c.args.self.now.begun in
      let len : vec_len c.push_reserved.new.self ≡ vec_len c.args.self.now.committed + 1 = c.push_reserved.ensures.len ∙ ap (λ m. m + 1) c.in_ok-reserve.ensures.len in
      let long : c.args.caller < length begun.items = (let all : vec_len begun ≡ 64 = c.args.self.now.all_begun in omega (arith, c.requires, all, begun.ok.0)) in
      let kept : c.push_reserved-2.new.self.items ≡ c.args.self.now.since.items ++ get_or begun.items c.args.caller 0 ∷ [] = c.push_reserved-2.ensures.items ∙ (λ i. c.in_ok-reserve-2.ensures.items i ++ (c.index.ensures ∙ same_default begun.items c.args.caller c.index.result.now 0 long) i ∷ []) in
      subst (λ since. AreBegun (vec_len c.push_reserved.new.self) since begun.items) (sym kept) (begun_more (vec_len c.args.self.now.committed) (vec_len c.push_reserved.new.self) c.args.caller c.args.self.now.since.items begun.items len c.args.self.now.timing);
  plain =
      let n = c.len.result in
      let len : vec_len c.push_reserved.new.self ≡ n + 1 = c.push_reserved.ensures.len ∙ ap (λ m. m + 1) (sym c.len.ensures) in
      subst (ArePlain (vec_len c.push_reserved.new.self)) (sym c.in_ok-add_accesses.ensures.ok) (plain_more n (vec_len c.push_reserved.new.self) c.args.self.now.accesses.items c.of_caller-footprint.result.now.cells.entries len (subst (λ m. ArePlain m c.args.self.now.accesses.items) (sym (c.len.ensures ∙ c.in_ok-reserve.ensures.len)) c.args.self.now.plain) c.in_ok-add_accesses.ensures.ordered);
}

pub returns-clause-ok : goal.returns-clause-ok
returns-clause-ok c b h p shape shows shaped =
    let e = Committed c.args.caller p in
    let old = c.args.self.now in
    let after = h ++ Committed c.args.caller p ∷ [] in
    let there = has_txn h e shape shaped in
    let in_t : txn_in h c.args.caller ≡ Some there.0 = there.1 in
    let foot = c.of_caller-footprint.result.now in
    let is = c.of_caller-footprint.ensures h shows.footprints in
    let all : vec_len old.newest ≡ 64 = old.all in
    let long : c.args.caller < length old.newest.items = omega (arith, c.requires, all, old.newest.ok.0) in
    let txn_is : c.index-txn.result.now ≡ there.0 = c.index-txn.ensures ∙ same_default old.newest.items c.args.caller c.index-txn.result.now 0 long ∙ shows.newest c.args.caller there.0 c.requires in_t in
    let count : c.len.result ≡ length (commits h) = omega (arith, c.len.ensures, c.reserve.new.self.ok.0, ap length (c.in_ok-reserve.ensures.items ∙ shows.committed)) in
    let plain : ArePlain c.len.result old.accesses.items = subst (λ n. ArePlain n old.accesses.items) (sym (c.len.ensures ∙ c.in_ok-reserve.ensures.len)) old.plain in
    let same : c.add_accesses.new.accesses.items ≡ old.accesses.items ++ accesses_of c.len.result foot.cells.entries = c.in_ok-add_accesses.ensures.ok in
    let long_begun : c.args.caller < length old.begun.items = (let all_begun : vec_len old.begun ≡ 64 = old.all_begun in omega (arith, c.requires, all_begun, old.begun.ok.0)) in
    let since_is : c.push_reserved-2.new.self.items ≡ old.since.items ++ get_or old.begun.items c.args.caller 0 ∷ [] = c.push_reserved-2.ensures.items ∙ (λ i. c.in_ok-reserve-2.ensures.items i ++ (c.index.ensures ∙ same_default old.begun.items c.args.caller c.index.result.now 0 long_begun) i ∷ []) in
    let since_len : length old.since.items ≡ length (commits h) = (let kept_len = old.timing.timing.len in let long_commits = ap length shows.committed in omega (arith, kept_len, long_commits, old.committed.ok.0)) in
    record {
      footprints = c.end.ensures h e refl (inl refl) shape shows.footprints shaped;
      newest = newest_same h e old.newest.items (λ (b u : ℕ) (is : Committed c.args.caller p ≡ Began b u). cc is) shows.newest;
      committed = c.push_reserved.ensures.items ∙ ap (λ (ts : List ℕ). ts ++ c.index-txn.result.now ∷ []) (c.in_ok-reserve.ensures.items ∙ shows.committed) ∙ ap (λ t. commits h ++ t ∷ []) txn_is ∙ sym (commits_more h shape c.args.caller p there.0 in_t shaped);
      accessed = subst (λ (o : Option ℕ). HaveAccesses after o c.add_accesses.new.accesses.items) (sym (c.first_torn-self.ensures ∙ ap (first_torn old.torn foot.is_torn) txn_is))
          (subst (HaveAccesses after (first_torn old.torn foot.is_torn there.0)) (sym same) (accessed_more h shape c.args.caller p there.0 in_t shaped foot is c.len.result count old.accesses.items plain old.torn shows.accessed));
      counts = shows.counts;
      begun = begun_same b h e shape shaped old.begun.items (λ (d u : ℕ) (is : Committed c.args.caller p ≡ Began d u). cc is) shows.begun;
      since = subst (HaveSince b after) (sym since_is) (since_more b h shape c.args.caller p there.0 in_t shaped old.since.items old.begun.items c.requires since_len shows.begun shows.since);
    }
