use Rattle.std.proofs.Common.{◌≡◌, ◌<◌, ◌∷◌, ◌++◌, [], ap, cond, sym, subst, ◌∙◌, length, arith, true, vec_len}
use Rattle.std.proofs.Math.ListN.{set}
use Rattle.std.proofs.lemmas.Result.{on_ok_weaker}
use Rattle.txn_words.specs.declared.entry.Entry.{Entry}
use Rattle.txn_words.specs.Kinds.{caller_of}
use Rattle.txn_words.specs.Shape.{is_shaped}
use Rattle.txn_trace.specs.History.{commits}
use Rattle.serial_check.proofs.FootprintSteps.{not_commit}
use Rattle.order_check.specs.Kept.{Shows}
use Rattle.order_check.proofs.EntrySteps.{AreNewest, newest_same, newest_began, commits_same, accessed_same}
use Rattle.order_check.proofs.SinceSteps.{HaveBegun, begun_now, begun_same, since_same}
use Rattle.order_check.proofs.transactions.Transactions.take_in.Goals as goal

pub returns-in-Committed-clause-ok : goal.returns-in-Committed-clause-ok
returns-in-Committed-clause-ok c =
    on_ok_weaker c.commit.result (λ commits b h entered shows shaped.
    subst (λ (e : Entry). Shows b (h ++ e ∷ []) c.commit.new.self) (sym c.in-Committed.is) (commits b h c.in-Committed.field-1 entered.shape shows (subst (λ (e : Entry). is_shaped h e ≡ true) c.in-Committed.is shaped))) c.commit.ensures.ok

pub returns-in_default-entry : goal.returns-in_default-entry
returns-in_default-entry c = record {
  ok = λ b h entered shows shaped.
      let other = (not_commit h c.args.entry.now c.in_default.not-Committed).0 in
      let same = commits_same h c.args.entry.now entered.shape shaped other in
      record {
        footprints = c.in_ok-take_in.ensures.ok h entered shows.footprints shaped;
        newest = newest_same h c.args.entry.now c.args.self.now.newest.items c.in_default-entry.not-Began shows.newest;
        committed = shows.committed ∙ sym same;
        accessed = accessed_same h c.args.entry.now entered.shape shaped other c.args.self.now.torn c.args.self.now.accesses.items shows.accessed;
        counts = shows.counts;
        begun = begun_same b h c.args.entry.now entered.shape shaped c.args.self.now.begun.items c.in_default-entry.not-Began shows.begun;
        since = since_same b h c.args.entry.now entered.shape shaped other c.args.self.now.since.items shows.since;
      };
  err = tt;
}

pub returns-in-Began : goal.returns-in-Began
returns-in-Began c = record {
  ok = λ b h entered shows shaped.
      let other = (not_commit h c.args.entry.now c.in_default.not-Committed).0 in
      let same = commits_same h c.args.entry.now entered.shape shaped other in
      let below : c.in-Began.caller < 64 = subst (λ e. caller_of e < 64) c.in-Began.is c.requires in
      let long : c.in-Began.caller < length c.args.self.now.newest.items = (let all : vec_len c.args.self.now.newest ≡ 64 = c.args.self.now.all in omega (arith, below, all, c.args.self.now.newest.ok.0)) in
      let long_begun : c.in-Began.caller < length c.args.self.now.begun.items = (let all : vec_len c.args.self.now.begun ≡ 64 = c.args.self.now.all_begun in omega (arith, below, all, c.args.self.now.begun.ok.0)) in
      let count : vec_len c.args.self.now.committed ≡ length (commits h) = (let long = ap length shows.committed in omega (arith, long, c.args.self.now.committed.ok.0)) in
      let counted : c.commits_that_count.result ≡ cond b (length (commits h)) 0 = c.commits_that_count.ensures ∙ (λ i. cond (shows.counts i) (count i) 0) in
      record {
        footprints = c.in_ok-take_in.ensures.ok h entered shows.footprints shaped;
        newest = subst (λ (e : Entry). AreNewest (h ++ e ∷ []) (set c.args.self.now.newest.items c.in-Began.caller c.in-Began.txn)) (sym c.in-Began.is) (newest_began h c.in-Began.caller c.in-Began.txn c.args.self.now.newest.items long shows.newest);
        committed = shows.committed ∙ sym same;
        accessed = accessed_same h c.args.entry.now entered.shape shaped other c.args.self.now.torn c.args.self.now.accesses.items shows.accessed;
        counts = shows.counts;
        begun = subst (λ (e : Entry). HaveBegun b (h ++ e ∷ []) (set c.args.self.now.begun.items c.in-Began.caller c.commits_that_count.result)) (sym c.in-Began.is)
            (begun_now b h c.in-Began.caller c.in-Began.txn entered.shape (subst (λ (e : Entry). is_shaped h e ≡ true) c.in-Began.is shaped) c.args.self.now.begun.items c.commits_that_count.result long_begun counted shows.begun);
        since = since_same b h c.args.entry.now entered.shape shaped other c.args.self.now.since.items shows.since;
      };
  err = tt;
}
