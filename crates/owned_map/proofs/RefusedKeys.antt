-- Shows that the map has no key that the limits refuse, because no operation asks for one.
use Rattle.std.proofs.Common.{◌≡◌, ℕ, zero, suc, Bool, true, false, cond, List, [], ◌∷◌, ◌++◌, map, Option, Some, None, refl, sym, ap, subst, ◌∙◌}
use Rattle.std.specs.Prelude.{not, ◌&&◌, Result, Ok, Err}
use Rattle.std.specs.List.{filter, fold}
use Rattle.std.proofs.lemmas.Bool.{and_from, and_parts}
use Rattle.txn_words.specs.declared.op.Op.{Op}
use Rattle.txn_words.specs.declared.refusal.Refusal.{Refusal}
use Rattle.txn_words.specs.declared.refusal.Refusal.TheVariants as refusals
use Rattle.txn_words.specs.declared.step.Step.{Step}
use Rattle.txn_words.specs.declared.step.Step.TheVariants.{Begin, Ask, Seek, Act, Save, Back, Commit, Abort}
use Rattle.txn_words.specs.declared.answer.Answer.{Answer}
use Rattle.txn_words.specs.declared.answer.Answer.TheVariants as answers
use Rattle.txn_words.specs.declared.entry.Entry.{Entry}
use Rattle.txn_words.specs.declared.entry.Entry.TheVariants as entry
use Rattle.txn_words.specs.Entries.{entries_of}
use Rattle.txn_trace.specs.History.{Line, txn_after, lines_from, is_of, of, commits, open_txns}
use Rattle.txn_words.specs.Kinds.{caller_of}
use Rattle.txn_trace.specs.Alone.{AloneRun, alone, last_map, map_after}
use Rattle.txn_words.specs.Map.{Map, empty, get, key_of}
use Rattle.txn_trace.specs.Now.{now, first_differing}
use Rattle.txn_trace.specs.Serial.{serial}
use Rattle.txn_words.specs.Sizes.{is_bad_key}
use Rattle.txn_trace.proofs.Local.{AsksFor, AllAskFor, RunsAlike, alone_alike}
use Rattle.txn_trace.proofs.Table.{get-now}
use Rattle.boost_core.specs.State.{State, stance_in}
use Rattle.boost_core.specs.Answers.{is_at_end}
use Rattle.boost_core.specs.Machine.{IsAllowed, Move, Moves}
use Rattle.boost_core.specs.Plain.{Operates, Returns, Aborts, Ends, Leaves, Drives, Helps, HelpsTo, undoing, undone}
use Rattle.owned_map.specs.Taken.{is_well, asks_well, HasTakenKeys}
use Rattle.owned_map.proofs.Levels.{past}
use Rattle.boost_core.proofs.SideRefusals.{first_none}

abbrev pub IsWell : State → Type 0
IsWell s = asks_well s.limits.half s.history ≡ true

-- If two histories ask for no refused key, the first followed by the second asks for no refused
-- key.
both : (half : Bool) (g h : List Entry) → asks_well half g ≡ true → asks_well half h ≡ true → asks_well half (g ++ h) ≡ true
both half [] h first second = second
both half (e ∷ g) h first second =
    let parts = and_parts (is_well half e) (asks_well half g) first in
    and_from (is_well half e) (asks_well half (g ++ h)) parts.0 (both half g h parts.1 second)

-- If the step `Ask` of an operation is allowed, the operation's key is not refused.
asked : (old : State) (c : ℕ) (op : Op) → IsAllowed old (Ask c op) answers.Asked → is_bad_key old.limits.half (key_of op) ≡ false
asked old c op allowed = (first_none (is_bad_key old.limits.half (key_of op)) refusals.BadKey None (past old c (cond (is_bad_key old.limits.half (key_of op)) (Some refusals.BadKey) None) allowed.0)).0

added : (old : State) (step : Step) (answer : Answer) → IsAllowed old step answer → asks_well old.limits.half (entries_of step answer) ≡ true
added old (Begin c) (answers.Began t) allowed = refl
added old (Ask c op) answers.Asked allowed = ap (λ b. not b && true) (asked old c op allowed)
added old (Ask c op) (answers.Busy x) allowed = refl
added old (Act c) (answers.Done reply) allowed = refl
added old (Act c) answers.Undone allowed = refl
added old (Act c) (answers.Returned n) allowed = refl
added old (Act c) answers.Aborted allowed = refl
added old (Save c) (answers.Saved n) allowed = refl
added old (Back c n) answers.Leaving allowed = refl
added old (Commit c) (answers.Committed p) allowed = refl
added old (Abort c) answers.Leaving allowed = refl
added old step answer allowed = refl

pub moved : (old new : State) (step : Step) (answer : Answer) → Move old step answer new → asks_well old.limits.half old.history ≡ true → asks_well new.limits.half new.history ≡ true
moved old new step (answers.Refused refusal) move well = ap (λ (s : State). asks_well s.limits.half s.history) move.state ∙ well
moved old new step answer move well =
    ap (λ (s : State). asks_well s.limits.half s.history) move.state
    ∙ both old.limits.half old.history (entries_of step answer) well (added old step answer move.allowed)

all_moved : (old new : State) (steps : List Step) (given : List Answer) → Moves old steps given new → IsWell old → IsWell new
all_moved old new [] [] is well = subst IsWell (sym is) well
all_moved old new (step ∷ steps) (answer ∷ given) (between, event, rest) well =
    all_moved between new steps given rest (moved old between step answer event.move well)
all_moved old new [] (answer ∷ given) none well = absurd none
all_moved old new (step ∷ steps) [] none well = absurd none

-- If no entry of the history asks for a refused key before a plain call, no entry does so after the
-- call.
pub operated : (old new : State) (c : ℕ) (op : Op) (answer : Answer) → Operates old c op answer new → asks_well old.limits.half old.history ≡ true → asks_well new.limits.half new.history ≡ true
operated old new c op (answers.Done reply) moves well = all_moved old new (Ask c op ∷ Seek c ∷ Act c ∷ []) (answers.Asked ∷ answers.Placed ∷ answers.Done reply ∷ []) moves well
operated old new c op answers.Asked none well = absurd none
operated old new c op answer event well = moved old new (Ask c op) answer event.move well

left : (c : ℕ) (old new : State) (b : Bool) → Leaves b old c new → IsWell old → IsWell new
left c old new true is well = subst IsWell (sym is) well
left c old new false event well = moved old new (Abort c) answers.Leaving event.move well

ended : (c : ℕ) (old new : State) (answer : Answer) → Ends old c answer new → IsWell old → IsWell new
ended c old new answer (changes, moves) well = all_moved old new (undoing changes c (Act c ∷ [])) (undone changes (answer ∷ [])) moves well

pub aborted : (old new : State) (c : ℕ) (answer : Answer) → Aborts old c answer new → asks_well old.limits.half old.history ≡ true → asks_well new.limits.half new.history ≡ true
aborted old new c answers.Aborted (between, leaves, ends) well =
    ended c between new answers.Aborted ends (left c old between (is_at_end (stance_in old.history c).phase) leaves well)
aborted old new c answers.Leaving none well = absurd none
aborted old new c answer refused well = moved old new (Abort c) answer refused.1.move well

pub returned : (old new : State) (c n : ℕ) (answer : Answer) → Returns old c n answer new → asks_well old.limits.half old.history ≡ true → asks_well new.limits.half new.history ≡ true
returned old new c n (answers.Returned m) (reached, between, event, ends) well =
    ended c between new (answers.Returned m) ends (moved old between (Back c n) answers.Leaving event.move well)
returned old new c n answers.Leaving none well = absurd none
returned old new c n answer event well = moved old new (Back c n) answer event.move well

driven : (moves : ℕ) (drive last : _) (old new : State) → Drives moves drive old last new → IsWell old → IsWell new
driven zero drive last old new (ended, is) well = subst IsWell (sym is) well
driven (suc moves) drive last old new (step, answer, between, named, event, rest) well = driven moves _ last between new rest (moved old between step answer event.move well)

to_end : (c key : ℕ) (outcome : _) (old new : State) → HelpsTo outcome old c key new → IsWell old → IsWell new
to_end c key outcome old new helps well = driven helps.moves _ helps.last old new helps.drives well

pub helped : (old new : State) (c key : ℕ) (outcome : Result Unit Refusal) → Helps old c key outcome new → asks_well old.limits.half old.history ≡ true → asks_well new.limits.half new.history ≡ true
helped old new c key (Ok done) (helps, stored) well = to_end c key _ old new helps well
helped old new c key (Err refusals.NoSuchHelper) (none, is) well = subst IsWell (sym is) well
helped old new c key (Err refusals.BadKey) helps well = to_end c key _ old new helps well
helped old new c key (Err refusals.NoMemory) helps well = to_end c key _ old new helps well
helped old new c key (Err refusals.StampsUsedUp) helps well = to_end c key _ old new helps well
helped old new c key (Err refusal) none well = absurd none

-- True if the key is not refused.
abbrev keys_of : Bool → ℕ → Bool
keys_of half k = not (is_bad_key half k)

all_asked : (half : Bool) (h : List Entry) → asks_well half h ≡ true → AllAskFor (keys_of half) h
all_asked half [] well = tt
all_asked half (e ∷ h) well =
    let parts = and_parts (is_well half e) (asks_well half h) well in
    (at e parts.0, all_asked half h parts.1)
  where
    at : (e : Entry) → is_well half e ≡ true → AsksFor (keys_of half) e
    at (entry.Asked c op) is = is
    at _ is = tt

of_asked : (keys : ℕ → Bool) (t : ℕ) (before : ℕ → Option ℕ) (h : List Entry) → AllAskFor keys h → AllAskFor keys (map (λ (l : Line). l.entry) (filter (is_of t) (lines_from before h)))
of_asked keys t before [] all = tt
of_asked keys t before (e ∷ h) all =
    let line : Line = record { txn = txn_after before e (caller_of e); entry = e } in
    at line (filter (is_of t) (lines_from (txn_after before e) h)) (is_of t line) all.0 (of_asked keys t (txn_after before e) h all.1)
  where
    at : (line : Line) (rest : List Line) (b : Bool) → AsksFor keys line.entry → AllAskFor keys (map (λ (l : Line). l.entry) rest)
        → AllAskFor keys (map (λ (l : Line). l.entry) (cond b (line ∷ rest) rest))
    at line rest true first others = (first, others)
    at line rest false first others = others

left_alone : (keys : ℕ → Bool) (m : Map) (o p : Option AloneRun) → RunsAlike keys m m o p → (k : ℕ) → keys k ≡ false → get (last_map m o) k ≡ get m k
left_alone keys m None p alike k out = refl
left_alone keys m (Some r) None alike k out = absurd alike
left_alone keys m (Some r) (Some s) alike k out = alike.last.left k out

-- If no entry of a history asks for a refused key, the map has no refused key.
pub none_there : (half : Bool) (h : List Entry) → asks_well half h ≡ true → HasTakenKeys half (now h)
none_there half h well k bad = get-now h k ∙ differing (open_txns h) ∙ committed (commits h) empty refl
  where
    one : (t : ℕ) (m : Map) → get (map_after m (of t h)) k ≡ get m k
    one t m =
        left_alone (keys_of half) m (alone m (of t h)) (alone m (of t h))
        (alone_alike (keys_of half) m m (of t h) (of_asked (keys_of half) t (λ c. None) h (all_asked half h well)) (λ q is. refl)) k (ap not bad)

    committed : (ts : List ℕ) (m : Map) → get m k ≡ None → get (fold (λ m t. map_after m (of t h)) m ts) k ≡ None
    committed [] m is = is
    committed (t ∷ ts) m is = committed ts (map_after m (of t h)) (one t m ∙ is)

    either : (b : Bool) (x y z : Option ℕ) → x ≡ z → y ≡ z → cond b x y ≡ z
    either true x y z first second = first
    either false x y z first second = second

    differing : (ts : List ℕ) → first_differing (serial h) (map (λ t. map_after (serial h) (of t h)) ts) k ≡ get (serial h) k
    differing [] = refl
    differing (t ∷ ts) = either _ _ _ _ (differing ts) (one t (serial h))
