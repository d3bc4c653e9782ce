use Rattle.std.proofs.Common.{◌≡◌, ℕ, Bool, List, Some, None, length, map, filter, arith, refl, sym, ap, ◌∙◌, subst, vec_len}
use Rattle.std.specs.List.{range_with_len}
use Rattle.txn_words.specs.declared.entry.Entry.{Entry}
use Rattle.txn_trace.specs.History.{commits}
use Rattle.serial_check.specs.Serializable.{IsSerializableByCommits}
use Rattle.order_check.specs.declared.access.Access.{Access}
use Rattle.order_check.specs.declared.outcome.Outcome.{Outcome}
use Rattle.order_check.specs.declared.outcome.Outcome.TheVariants.{Order, Unwritten, Impossible, Cycle, Ambiguous}
use Rattle.order_check.specs.declared.transactions.Transactions.{Transactions}
use Rattle.order_check.specs.Footprints.{no_values}
use Rattle.order_check.specs.Graphs.{IsCycle}
use Rattle.order_check.specs.InTurn.{RunInTurn}
use Rattle.order_check.specs.Kept.{Shows, HaveAccesses}
use Rattle.order_check.specs.Named.{name_at, named_edge}
use Rattle.order_check.specs.Outcomes.{ArePlain, IsOutcome, IsInTurn}
use Rattle.order_check.specs.Reasons.{IsForced, NeedsValue, IsUnwritten}
use Rattle.order_check.specs.RealTime.{IsSerialOrderIf}
use Rattle.order_check.specs.Serializable.{IsCommitted}
use Rattle.order_check.specs.Timing.{IsTiming, since_in}
use Rattle.order_check.proofs.Alike.{torn_no_order}
use Rattle.order_check.proofs.ByCommits.{serializable_in_order}
use Rattle.order_check.proofs.Histories.{order_by_places, none_by_places}
use Rattle.order_check.proofs.AccessOrder.{names_all}
use Rattle.order_check.proofs.RealTimes.{ordered_if}
use Rattle.order_check.specs.Writers.{does_write, named_by}
use Rattle.order_check.proofs.Writing.{writers_are}
use Rattle.order_check.proofs.AccessOutcomes.{outcome_on, by_commits_in_turn, cycle_is, needed_is, unwritten_is, repeated_is}
use Rattle.order_check.specs.Outcomes.{footprints_of}
use Rattle.order_check.proofs.transactions.Transactions.verdict.Goals as goal

-- What the code has of a history that it keeps.
count_is : (b : Bool) (h : List Entry) (kept : Transactions) (n : ℕ) → Shows b h kept → n ≡ vec_len kept.committed → n ≡ length (commits h)
count_is b h kept n shows n_is = let long : length kept.committed.items ≡ length (commits h) = ap length shows.committed in omega (arith, n_is, kept.committed.ok.0, long)

accesses_are : (b : Bool) (h : List Entry) (kept : Transactions) → Shows b h kept → kept.torn ≡ None → HaveAccesses h None kept.accesses.items
accesses_are b h kept shows none = subst (λ o. HaveAccesses h o kept.accesses.items) none shows.accessed

plain_on : (b : Bool) (h : List Entry) (kept : Transactions) → Shows b h kept → ArePlain (length (commits h)) kept.accesses.items
plain_on b h kept shows = subst (λ n. ArePlain n kept.accesses.items) (count_is b h kept (vec_len kept.committed) shows refl) kept.plain

timing_on : (b : Bool) (h : List Entry) (kept : Transactions) → Shows b h kept → IsTiming (length (commits h)) kept.since.items
timing_on b h kept shows = subst (λ n. IsTiming n kept.since.items) (count_is b h kept (vec_len kept.committed) shows refl) kept.timing.timing

in_turn : (b : Bool) (h : List Entry) (kept : Transactions) (xs : List Access) (o p : Outcome) (n : ℕ) → Shows b h kept → kept.torn ≡ None → n ≡ vec_len kept.committed → xs ≡ kept.accesses.items → (RunInTurn no_values xs → IsInTurn n o) → o ≡ p → IsSerializableByCommits h → IsInTurn n p
in_turn b h kept xs o p n shows none n_is same judged is by_commits =
    subst (IsInTurn n) is (judged (subst (RunInTurn no_values) (sym same) (by_commits_in_turn h (vec_len kept.committed) kept.accesses.items (count_is b h kept (vec_len kept.committed) shows refl) kept.plain (accesses_are b h kept shows none) by_commits)))

pub judge-requires-clause-plain : goal.judge-requires-clause-plain
judge-requires-clause-plain c = subst (ArePlain c.len-count.result) (sym c.deref-2.ensures.value) (subst (λ n. ArePlain n c.args.self.now.accesses.items) (sym c.len-count.ensures) c.args.self.now.plain)

pub judge-requires-clause-timing : goal.judge-requires-clause-timing
judge-requires-clause-timing c = subst (IsTiming c.len-count.result) (sym c.deref.ensures.value) (subst (λ n. IsTiming n c.args.self.now.since.items) (sym c.len-count.ensures) c.args.self.now.timing.timing)

pub returns-in-Some-clause-verdict : goal.returns-in-Some-clause-verdict
returns-in-Some-clause-verdict c b h shape shows =
    let is : HaveAccesses h (Some c.in-Some.txn) c.args.self.now.accesses.items = subst (λ o. HaveAccesses h o c.args.self.now.accesses.items) c.in-Some.is shows.accessed in
    (is, λ serializable. let found = ordered_if b h serializable in torn_no_order h c.in-Some.txn is.0 is.1 found.order found.in_order)

pub returns-in-Some-clause-commits : goal.returns-in-Some-clause-commits
returns-in-Some-clause-commits c b h shows by_commits =
    let is : HaveAccesses h (Some c.in-Some.txn) c.args.self.now.accesses.items = subst (λ o. HaveAccesses h o c.args.self.now.accesses.items) c.in-Some.is shows.accessed in
    torn_no_order h c.in-Some.txn is.0 is.1 (commits h) (serializable_in_order h by_commits)

pub returns-in_ok-order-in-Order-clause-verdict : goal.returns-in_ok-order-in-Order-clause-verdict
returns-in_ok-order-in-Order-clause-verdict c b h shape shows =
    let kept = c.args.self.now in
    let none = accesses_are b h kept shows c.in_default.is in
    let outcome : IsOutcome (length (commits h)) (since_in kept.since.items) kept.accesses.items (Order c.in-Order.places) =
    outcome_on c.len-count.result (length (commits h)) c.deref.result.now kept.since.items c.deref-2.result.now kept.accesses.items c.in_ok-places.field-0 (Order c.in-Order.places) (count_is b h kept c.len-count.result shows c.len-count.ensures) c.deref.ensures.value c.deref-2.ensures.value c.in-Order.is c.in_ok-places.ensures.outcome in
    let named : c.in_ok-order-in-Order.order.items ≡ map (name_at (commits h)) c.in-Order.places.items =
    c.in_ok-order-in-Order.ensures ∙ (λ i. map (name_at (c.deref-in-Order.ensures.value i)) (c.deref-in-Order-2.ensures.value i)) ∙ ap (λ ts. map (name_at ts) c.in-Order.places.items) shows.committed in
    (shape, subst (IsSerialOrderIf b h) (sym named) (order_by_places h shape (footprints_of kept.accesses.items) none b kept.since.items (timing_on b h kept shows) shows.since c.in-Order.places.items outcome))

pub returns-in_ok-order-in-Order-clause-commits : goal.returns-in_ok-order-in-Order-clause-commits
returns-in_ok-order-in-Order-clause-commits c b h shows by_commits =
    let kept = c.args.self.now in
    let places : c.in-Order.places.items ≡ range_with_len 0 c.len-count.result = in_turn b h kept c.deref-2.result.now c.in_ok-places.field-0 (Order c.in-Order.places) c.len-count.result shows c.in_default.is c.len-count.ensures c.deref-2.ensures.value c.in_ok-places.ensures.in_turn c.in-Order.is by_commits in
    c.in_ok-order-in-Order.ensures ∙ (λ i. map (name_at (c.deref-in-Order.ensures.value i)) (c.deref-in-Order-2.ensures.value i)) ∙ ap (λ ts. map (name_at ts) c.in-Order.places.items) shows.committed
    ∙ ap (map (name_at (commits h))) (places ∙ ap (range_with_len 0) (count_is b h kept c.len-count.result shows c.len-count.ensures)) ∙ names_all (commits h)

pub returns-in-Unwritten-clause-verdict : goal.returns-in-Unwritten-clause-verdict
returns-in-Unwritten-clause-verdict c b h shape shows =
    let kept = c.args.self.now in
    let none = accesses_are b h kept shows c.in_default.is in
    let outcome : IsOutcome (length (commits h)) (since_in kept.since.items) kept.accesses.items (Unwritten c.in-Unwritten.access) =
    outcome_on c.len-count.result (length (commits h)) c.deref.result.now kept.since.items c.deref-2.result.now kept.accesses.items c.in_ok-places.field-0 (Unwritten c.in-Unwritten.access) (count_is b h kept c.len-count.result shows c.len-count.ensures) c.deref.ensures.value c.deref-2.ensures.value c.in-Unwritten.is c.in_ok-places.ensures.outcome in
    let a = c.in-Unwritten.access in
    let named : c.name_at-txn.result ≡ name_at (commits h) a.txn = c.name_at-txn.ensures ∙ ap (λ ts. name_at ts a.txn) (c.deref-in-Unwritten.ensures.value ∙ shows.committed) in
    let reason = unwritten_is h kept.accesses.items (plain_on b h kept shows) none a outcome.0 in (
      subst (λ t. IsCommitted h t × NeedsValue h t a.key a.need × IsUnwritten h a.key a.need) (sym named) reason,
      λ serializable. none_by_places h shape (footprints_of kept.accesses.items) none b kept.since.items (timing_on b h kept shows) shows.since outcome.1 serializable,
    )

pub returns-in-Impossible-clause-verdict : goal.returns-in-Impossible-clause-verdict
returns-in-Impossible-clause-verdict c b h shape shows =
    let kept = c.args.self.now in
    let none = accesses_are b h kept shows c.in_default.is in
    let outcome : IsOutcome (length (commits h)) (since_in kept.since.items) kept.accesses.items (Impossible c.in-Impossible.access) =
    outcome_on c.len-count.result (length (commits h)) c.deref.result.now kept.since.items c.deref-2.result.now kept.accesses.items c.in_ok-places.field-0 (Impossible c.in-Impossible.access) (count_is b h kept c.len-count.result shows c.len-count.ensures) c.deref.ensures.value c.deref-2.ensures.value c.in-Impossible.is c.in_ok-places.ensures.outcome in
    let a = c.in-Impossible.access in
    let named : c.name_at-txn-in-Impossible.result ≡ name_at (commits h) a.txn = c.name_at-txn-in-Impossible.ensures ∙ ap (λ ts. name_at ts a.txn) (c.deref-in-Impossible.ensures.value ∙ shows.committed) in
    let needed = needed_is h kept.accesses.items (plain_on b h kept shows) none a outcome.0 in (
      subst (λ t. IsCommitted h t × NeedsValue h t a.key a.need) (sym named) needed,
      λ serializable. none_by_places h shape (footprints_of kept.accesses.items) none b kept.since.items (timing_on b h kept shows) shows.since outcome.1 serializable,
    )

pub returns-in_ok-cycle-in-Cycle-clause-verdict : goal.returns-in_ok-cycle-in-Cycle-clause-verdict
returns-in_ok-cycle-in-Cycle-clause-verdict c b h shape shows =
    let kept = c.args.self.now in
    let none = accesses_are b h kept shows c.in_default.is in
    let outcome : IsOutcome (length (commits h)) (since_in kept.since.items) kept.accesses.items (Cycle c.in-Cycle.edges) =
    outcome_on c.len-count.result (length (commits h)) c.deref.result.now kept.since.items c.deref-2.result.now kept.accesses.items c.in_ok-places.field-0 (Cycle c.in-Cycle.edges) (count_is b h kept c.len-count.result shows c.len-count.ensures) c.deref.ensures.value c.deref-2.ensures.value c.in-Cycle.is c.in_ok-places.ensures.outcome in
    let named : c.in_ok-cycle-in-Cycle.cycle.items ≡ map (named_edge (commits h)) c.in-Cycle.edges.items =
    c.in_ok-cycle-in-Cycle.ensures ∙ (λ i. map (named_edge (c.deref-in-Cycle.ensures.value i)) (c.deref-in-Cycle-2.ensures.value i)) ∙ ap (λ ts. map (named_edge ts) c.in-Cycle.edges.items) shows.committed in (
      subst (IsCycle (IsForced b h)) (sym named) (cycle_is h kept.accesses.items (plain_on b h kept shows) none shape b kept.since.items (timing_on b h kept shows) shows.since c.in-Cycle.edges.items outcome.0),
      λ serializable. none_by_places h shape (footprints_of kept.accesses.items) none b kept.since.items (timing_on b h kept shows) shows.since outcome.1 serializable,
    )

pub returns-in_ok-writers-in-Ambiguous-clause-verdict : goal.returns-in_ok-writers-in-Ambiguous-clause-verdict
returns-in_ok-writers-in-Ambiguous-clause-verdict c b h shape shows =
    let kept = c.args.self.now in
    let none = accesses_are b h kept shows c.in_default.is in
    let outcome : IsOutcome (length (commits h)) (since_in kept.since.items) kept.accesses.items (Ambiguous c.in-Ambiguous.edge) =
    outcome_on c.len-count.result (length (commits h)) c.deref.result.now kept.since.items c.deref-2.result.now kept.accesses.items c.in_ok-places.field-0 (Ambiguous c.in-Ambiguous.edge) (count_is b h kept c.len-count.result shows c.len-count.ensures) c.deref.ensures.value c.deref-2.ensures.value c.in-Ambiguous.is c.in_ok-places.ensures.outcome in
    let named : c.in_ok-writers-in-Ambiguous.writers.items ≡ map (named_by (commits h)) (filter (does_write (c.in-Ambiguous.edge.key, c.in-Ambiguous.edge.value)) kept.accesses.items) =
    c.in_ok-writers-in-Ambiguous.ensures ∙ (λ i. map (named_by (c.deref-in-Ambiguous.ensures.value i)) (filter (does_write (c.in-Ambiguous.edge.key, c.in-Ambiguous.edge.value)) (c.deref-in-Ambiguous-2.ensures.value i)))
    ∙ ap (λ ts. map (named_by ts) (filter (does_write (c.in-Ambiguous.edge.key, c.in-Ambiguous.edge.value)) kept.accesses.items)) shows.committed in (
      repeated_is h kept.accesses.items (plain_on b h kept shows) none shape c.in-Ambiguous.edge.key c.in-Ambiguous.edge.value outcome,
      writers_are h shape kept.accesses.items (plain_on b h kept shows) none c.in-Ambiguous.edge.key c.in-Ambiguous.edge.value c.in_ok-writers-in-Ambiguous.writers.items named,
    )

pub returns-in-Unwritten-clause-commits : goal.returns-in-Unwritten-clause-commits
returns-in-Unwritten-clause-commits c b h shows by_commits = in_turn b h c.args.self.now c.deref-2.result.now c.in_ok-places.field-0 (Unwritten c.in-Unwritten.access) c.len-count.result shows c.in_default.is c.len-count.ensures c.deref-2.ensures.value c.in_ok-places.ensures.in_turn c.in-Unwritten.is by_commits

pub returns-in_ok-cycle-in-Cycle-clause-commits : goal.returns-in_ok-cycle-in-Cycle-clause-commits
returns-in_ok-cycle-in-Cycle-clause-commits c b h shows by_commits = in_turn b h c.args.self.now c.deref-2.result.now c.in_ok-places.field-0 (Cycle c.in-Cycle.edges) c.len-count.result shows c.in_default.is c.len-count.ensures c.deref-2.ensures.value c.in_ok-places.ensures.in_turn c.in-Cycle.is by_commits

pub returns-in_ok-writers-in-Ambiguous-clause-commits : goal.returns-in_ok-writers-in-Ambiguous-clause-commits
returns-in_ok-writers-in-Ambiguous-clause-commits c b h shows by_commits = in_turn b h c.args.self.now c.deref-2.result.now c.in_ok-places.field-0 (Ambiguous c.in-Ambiguous.edge) c.len-count.result shows c.in_default.is c.len-count.ensures c.deref-2.ensures.value c.in_ok-places.ensures.in_turn c.in-Ambiguous.is by_commits

pub returns-in-Impossible-clause-commits : goal.returns-in-Impossible-clause-commits
returns-in-Impossible-clause-commits c b h shows by_commits = in_turn b h c.args.self.now c.deref-2.result.now c.in_ok-places.field-0 (Impossible c.in-Impossible.access) c.len-count.result shows c.in_default.is c.len-count.ensures c.deref-2.ensures.value c.in_ok-places.ensures.in_turn c.in-Impossible.is by_commits
