-- Shows that a return to a level restores the map of this level, because an operation adds its
-- inverse to the log, so the map that the log leads back to stays the same.
use Rattle.std.proofs.Common.{◌≡◌, ℕ, ◌+◌, ◌-◌, ◌<◌, ◌≤◌, zero, suc, Bool, true, false, cond, List, [], ◌∷◌, ◌++◌, length, take, get_or, slice_index, Option, Some, None, refl, sym, ap, subst, ◌∙◌, arith}
use Rattle.std.specs.Prelude.{nat_le, nat_lt, ◌||◌, unwrap_or}
use Rattle.std.proofs.lemmas.Bool.{and_parts, ltb-true, leb-false}
use Rattle.std.proofs.lemmas.List.{append-nil, get_or_append_left, length_push, get_or_push, get_or-take, length-take-le}
use Rattle.txn_words.specs.declared.holder.Holder.{Holder}
use Rattle.txn_words.specs.declared.op.Op.{Op}
use Rattle.txn_words.specs.declared.refusal.Refusal.TheVariants as refusals
use Rattle.txn_words.specs.declared.step.Step.{Step}
use Rattle.txn_words.specs.declared.step.Step.TheVariants.{Seek, Act, Save}
use Rattle.txn_words.specs.declared.answer.Answer.{Answer}
use Rattle.txn_words.specs.declared.answer.Answer.TheVariants as answers
use Rattle.txn_words.specs.declared.entry.Entry.{Entry}
use Rattle.txn_words.specs.declared.entry.Entry.TheVariants as entry
use Rattle.txn_words.specs.declared.stance.Phase.{Phase}
use Rattle.txn_words.specs.declared.stance.Phase.TheVariants.{Opened, Waiting, LeavingTo}
use Rattle.txn_words.specs.Sizes.{Sizes}
use Rattle.txn_words.specs.Map.{Map, key_of, reply_of, after, set_at}
use Rattle.txn_trace.specs.Now.{now}
use Rattle.txn_trace.specs.Log.{log_of, rolled_back}
use Rattle.txn_words.specs.Kinds.{caller_of}
use Rattle.txn_words.specs.Shape.{Stance, stance_after, own, closed_stance, changes, IsShaped}
use Rattle.txn_trace.specs.Legal.{IsLegal}
use Rattle.txn_trace.specs.Locks.{is_locked}
use Rattle.txn_words.proofs.Effects.{after_unchanged, changes-reply}
use Rattle.txn_words.proofs.Levels.{Leveled, IsLevelIn, stance_leveled}
use Rattle.txn_trace.proofs.EntrySteps.{Next}
use Rattle.txn_trace.proofs.Entries as laws
use Rattle.boost_core.proofs.Due.{set_at-after}
use Rattle.boost_core.specs.State.{State, holder_by, stance_in}
use Rattle.boost_core.specs.Refusals.{has_job, has_stamp_for}
use Rattle.boost_core.specs.Machine.{Move, Moves}
use Rattle.boost_core.specs.Plain.{Operates, Returns, undoing, undone}
use Rattle.owned_map.specs.Within.{map_at, level_count, KeepsLevels, KeepsSavepoints, IsSaved, IsBackAt, IsBasedOn, IsAt, IsGrown}
use Rattle.owned_map.proofs.Growing.{kept_by}
use Rattle.owned_map.proofs.Steps.{to_state, unmoved, phase_in, ready, based, replied, waits}
use Rattle.owned_map.proofs.Levels.{past, left_to_now, undone_to_now, reached_at}
use Rattle.boost_core.proofs.SideRefusals.{first_none}

-- The map at a level, computed from the stance, the log and the present map.
abbrev level_map : ℕ → Stance → List (ℕ × Option ℕ) → Map → Map
level_map n stance log m = rolled_back m (take (stance.standing - slice_index stance.kept n) log)

-- A caller's levels below this number have the same maps in two histories.
abbrev SameLevels : ℕ → ℕ → List Entry → List Entry → Type 0
SameLevels levels c g h = (n : ℕ) → n < levels → map_at c n h ≡ map_at c n g

-- The maps at a caller's levels and the number of these levels, computed from the stance in
-- `IsBasedOn`.
module _ {rule : Holder} {limits : Sizes} {c : ℕ} {base : Map} {q : Phase} (h : List Entry)
    (stands : IsBasedOn rule limits c base q h) where
  the_stance : stance_in h c ≡ stands.stance
  the_stance = ap (λ (o : Option Stance). unwrap_or o closed_stance) stands.stance_is

  pub map_is : (n : ℕ) → map_at c n h ≡ level_map n stands.stance (log_of c h) (now h)
  map_is n = ap (λ (s : Stance). level_map n s (log_of c h) (now h)) the_stance

  pub levels_are : level_count c h ≡ length stands.stance.kept
  levels_are = ap (λ (s : Stance). length s.kept) the_stance

  leveled : Leveled stands.stance
  leveled = stance_leveled (own c h) stands.stance stands.stance_is

-- The caller's stance, log and levels after one more entry. The law of this entry determines them.
module _ {rule : Holder} {stripes c : ℕ} (h : List Entry) (e : Entry) (mine : caller_of e ≡ c) {stance : Stance} {log : List (ℕ × Option ℕ)} {committed current : Map} {holder : ℕ → Option ℕ} (next : Next rule stripes h e stance log committed current holder) where
  stance_next : stance_in (h ++ e ∷ []) c ≡ stance
  stance_next = ap (λ (o : Option Stance). unwrap_or o closed_stance) (subst (λ d. stance_after (own d (h ++ e ∷ [])) ≡ Some stance) mine next.stance_is)

  log_next : log_of c (h ++ e ∷ []) ≡ log
  log_next = subst (λ d. log_of d (h ++ e ∷ []) ≡ log) mine next.log_is

  map_next : (n : ℕ) → map_at c n (h ++ e ∷ []) ≡ level_map n stance log current
  map_next n =
      ap (λ (s : Stance). level_map n s (log_of c (h ++ e ∷ [])) (now (h ++ e ∷ []))) stance_next
      ∙ ap (λ l. level_map n stance l (now (h ++ e ∷ []))) log_next
      ∙ ap (λ m. level_map n stance log m) next.now_is

  levels_next : level_count c (h ++ e ∷ []) ≡ length stance.kept
  levels_next = ap (λ (s : Stance). length s.kept) stance_next

-- If an operation adds a change to the log, the map at each level stays the same.
noted_level : (n : ℕ) (op : Op) (x : Option ℕ) (standing : ℕ) (kept : List ℕ) (log : List (ℕ × Option ℕ)) (m : Map) → get_or kept n 0 ≤ standing → x ≡ reply_of m op
    → rolled_back (after m op) (take (cond (changes op x) (standing + 1) standing - get_or kept n 0) (cond (changes op x) ((key_of op, x) ∷ log) log))
    ≡ rolled_back m (take (standing - get_or kept n 0) log)
noted_level n op x standing kept log m within right =
    subst (λ y. rolled_back (after m op) (take (cond (changes op y) (standing + 1) standing - get_or kept n 0) (cond (changes op y) ((key_of op, y) ∷ log) log)) ≡ rolled_back m (take (standing - get_or kept n 0) log)) (sym right) (at (changes op (reply_of m op)) refl)
  where
    one_more : standing + 1 - get_or kept n 0 ≡ suc (standing - get_or kept n 0)
    one_more = omega (arith, within)

    at : (b : Bool) → changes op (reply_of m op) ≡ b
        → rolled_back (after m op) (take (cond (changes op (reply_of m op)) (standing + 1) standing - get_or kept n 0) (cond (changes op (reply_of m op)) ((key_of op, reply_of m op) ∷ log) log))
        ≡ rolled_back m (take (standing - get_or kept n 0) log)
    at true is =
        ap (λ b. rolled_back (after m op) (take (cond b (standing + 1) standing - get_or kept n 0) (cond b ((key_of op, reply_of m op) ∷ log) log))) is
        ∙ ap (λ k. rolled_back (after m op) (take k ((key_of op, reply_of m op) ∷ log))) one_more
        ∙ ap (λ (z : Map). rolled_back z (take (standing - get_or kept n 0) log)) (set_at-after m op)
    at false is =
        ap (λ b. rolled_back (after m op) (take (cond b (standing + 1) standing - get_or kept n 0) (cond b ((key_of op, reply_of m op) ∷ log) log))) is
        ∙ ap (λ (z : Map). rolled_back z (take (standing - get_or kept n 0) log)) (after_unchanged m op (sym (changes-reply m op) ∙ is))

undone_level : (standing kept : ℕ) (log jobs : List (ℕ × Option ℕ)) (job : ℕ × Option ℕ) (m : Map) → kept < standing → log ≡ job ∷ jobs
    → rolled_back (set_at m job.0 job.1) (take (standing - 1 - kept) jobs) ≡ rolled_back m (take (standing - kept) log)
undone_level standing kept log jobs job m more is =
    let one_more : standing - kept ≡ suc (standing - 1 - kept) = omega (arith, more) in
    sym (ap (λ k. rolled_back m (take k log)) one_more ∙ ap (λ l. rolled_back m (take (suc (standing - 1 - kept)) l)) is)

module _ {rule : Holder} (limits : Sizes) (c : ℕ) (base : Map) (h : List Entry) where
  asked_levels : (op : Op) → IsBasedOn rule limits c base Opened h → is_locked rule limits.stripes h (entry.Asked c op) ≡ true → (n : ℕ) → map_at c n (h ++ entry.Asked c op ∷ []) ≡ map_at c n h
  asked_levels op stands locked n =
      map_next h (entry.Asked c op) refl (laws.asked limits.stripes h stands.legal c op stands.stance stands.stance_is stands.phase_is locked) n ∙ sym (map_is h stands n)

  asked_number : (op : Op) → IsBasedOn rule limits c base Opened h → is_locked rule limits.stripes h (entry.Asked c op) ≡ true → level_count c (h ++ entry.Asked c op ∷ []) ≡ level_count c h
  asked_number op stands locked =
      levels_next h (entry.Asked c op) refl (laws.asked limits.stripes h stands.legal c op stands.stance stands.stance_is stands.phase_is locked) ∙ sym (levels_are h stands)

  busy_levels : (op : Op) (x : ℕ) → IsBasedOn rule limits c base Opened h → is_locked rule limits.stripes h (entry.Busy c op x) ≡ true
      → (level_count c (h ++ entry.Busy c op x ∷ []) ≡ level_count c h) × ((n : ℕ)
      → map_at c n (h ++ entry.Busy c op x ∷ []) ≡ map_at c n h)
  busy_levels op x stands locked =
      let next = laws.busy limits.stripes h stands.legal c op x stands.stance stands.stance_is stands.phase_is locked in
      (levels_next h (entry.Busy c op x) refl next ∙ sym (levels_are h stands), λ n. map_next h (entry.Busy c op x) refl next n ∙ sym (map_is h stands n))

  did_levels : (op : Op) (x : Option ℕ) → IsBasedOn rule limits c base (Waiting op) h → x ≡ reply_of (now h) op
      → (level_count c (h ++ entry.Did c x ∷ []) ≡ level_count c h) × SameLevels (level_count c h) c h (h ++ entry.Did c x ∷ [])
  did_levels op x stands right =
      let next = laws.did limits.stripes h stands.legal c op x stands.stance stands.stance_is stands.phase_is right in
      let within : (n : ℕ) → n < length stands.stance.kept → get_or stands.stance.kept n 0 ≤ stands.stance.standing =
      subst (λ q. IsLevelIn q stands.stance.standing stands.stance.kept) stands.phase_is (leveled h stands).within in (
        levels_next h (entry.Did c x) refl next ∙ sym (levels_are h stands),
        λ n less.
            map_next h (entry.Did c x) refl next n
            ∙ noted_level n op x stands.stance.standing stands.stance.kept (log_of c h) (now h) (within n (subst (λ k. n < k) (levels_are h stands) less)) right
            ∙ sym (map_is h stands n),
      )

  saved_levels : (stands : IsBasedOn rule limits c base Opened h)
      → (level_count c (h ++ entry.Saved c ∷ []) ≡ level_count c h + 1) × (map_at c (level_count c h) (h ++ entry.Saved c ∷ []) ≡ now h) × SameLevels (level_count c h) c h (h ++ entry.Saved c ∷ [])
  saved_levels stands =
      let next = laws.saved limits.stripes h stands.legal c stands.stance stands.stance_is stands.phase_is in
      let kept : List ℕ = stands.stance.kept in
      let here : get_or (kept ++ stands.stance.standing ∷ []) (length kept) 0 ≡ stands.stance.standing = get_or_push kept stands.stance.standing 0 (length kept) refl in
      let none : stands.stance.standing - get_or (kept ++ stands.stance.standing ∷ []) (length kept) 0 ≡ 0 = omega (arith, here) in (
        levels_next h (entry.Saved c) refl next ∙ length_push kept stands.stance.standing ∙ sym (ap (λ k. k + 1) (levels_are h stands)),
        ap (λ k. map_at c k (h ++ entry.Saved c ∷ [])) (levels_are h stands)
            ∙ map_next h (entry.Saved c) refl next (length kept)
            ∙ ap (λ k. rolled_back (now h) (take k (log_of c h))) none,
        λ n less.
            map_next h (entry.Saved c) refl next n
            ∙ ap (λ k. rolled_back (now h) (take (stands.stance.standing - k) (log_of c h))) (get_or_append_left kept (stands.stance.standing ∷ []) 0 n (subst (λ k. n < k) (levels_are h stands) less))
            ∙ sym (map_is h stands n),
      )

  left_levels : (m : ℕ) (stands : IsBasedOn rule limits c base Opened h) → m < length stands.stance.kept
      → (level_count c (h ++ entry.Leave c (Some m) ∷ []) ≡ level_count c h) × ((n : ℕ) → map_at c n (h ++ entry.Leave c (Some m) ∷ []) ≡ map_at c n h)
  left_levels m stands within =
      let next = laws.left_to limits.stripes h stands.legal c m stands.stance stands.stance_is stands.phase_is within in
      (levels_next h (entry.Leave c (Some m)) refl next ∙ sym (levels_are h stands), λ n. map_next h (entry.Leave c (Some m)) refl next n ∙ sym (map_is h stands n))

  undone_levels : (m : ℕ) (stands : IsBasedOn rule limits c base (LeavingTo m) h) → slice_index stands.stance.kept m < stands.stance.standing
      → (level_count c (h ++ entry.Undone c ∷ []) ≡ level_count c h) × SameLevels (m + 1) c h (h ++ entry.Undone c ∷ [])
  undone_levels m stands more =
      let above : get_or stands.stance.kept m 0 < stands.stance.standing = more in
      let some : 0 < stands.stance.standing = omega (arith, above) in
      let newest = laws.newest h c stands.stance stands.stance_is some in
      let next = laws.undone_to limits.stripes h stands.legal c m stands.stance stands.stance_is stands.phase_is more newest.0 newest.1 newest.2 in
      let there : m < length stands.stance.kept = (subst (λ q. IsLevelIn q stands.stance.standing stands.stance.kept) stands.phase_is (leveled h stands).within).0 in
      let fewer : (n : ℕ) → n < m + 1 → get_or stands.stance.kept n 0 < stands.stance.standing =
      λ n less. (let low : get_or stands.stance.kept n 0 ≤ get_or stands.stance.kept m 0 = (leveled h stands).rising n m (omega (arith, less)) there in omega (arith, low, above)) in (
        levels_next h (entry.Undone c) refl next ∙ sym (levels_are h stands),
        λ n less.
            map_next h (entry.Undone c) refl next n
            ∙ undone_level stands.stance.standing (get_or stands.stance.kept n 0) (log_of c h) newest.1 newest.0 (now h) (fewer n less) newest.2
            ∙ sym (map_is h stands n),
      )

  returned_levels : (m : ℕ) (stands : IsBasedOn rule limits c base (LeavingTo m) h) → slice_index stands.stance.kept m ≡ stands.stance.standing
      → (now (h ++ entry.Returned c m ∷ []) ≡ map_at c m h) × (level_count c (h ++ entry.Returned c m ∷ []) ≡ m + 1) × SameLevels (m + 1) c h (h ++ entry.Returned c m ∷ [])
  returned_levels m stands reached =
      let next = laws.returned limits.stripes h stands.legal c m stands.stance stands.stance_is stands.phase_is reached in
      let there : m < length stands.stance.kept = (subst (λ q. IsLevelIn q stands.stance.standing stands.stance.kept) stands.phase_is (leveled h stands).within).0 in
      let here : get_or stands.stance.kept m 0 ≡ stands.stance.standing = reached in
      let none : stands.stance.standing - get_or stands.stance.kept m 0 ≡ 0 = omega (arith, here) in
      let fits : m + 1 ≤ length stands.stance.kept = omega (arith, there) in (
        next.now_is ∙ sym (map_is h stands m ∙ ap (λ k. rolled_back (now h) (take k (log_of c h))) none),
        levels_next h (entry.Returned c m) refl next ∙ length-take-le (m + 1) stands.stance.kept fits,
        λ n less.
            map_next h (entry.Returned c m) refl next n
            ∙ ap (λ k. rolled_back (now h) (take (stands.stance.standing - k) (log_of c h))) (get_or-take (m + 1) stands.stance.kept n 0 less)
            ∙ sym (map_is h stands n),
      )

abbrev history_of : State → List Entry
history_of s = s.history

keeps_same : (c : ℕ) (old new : State) → new.history ≡ old.history → KeepsSavepoints c old new
keeps_same c old new is = record { levels = ap (level_count c) is; maps = λ n less. ap (map_at c n) is }

pub keeps_grown : (c : ℕ) (old between new : State) → KeepsSavepoints c old between → IsGrown c between new → KeepsSavepoints c old new
keeps_grown c old between new keeps grown =
    let same = (kept_by c between new grown).history in
    record { levels = ap (level_count c) same ∙ keeps.levels; maps = λ n less. ap (map_at c n) same ∙ keeps.maps n less }

keeps_on : (c : ℕ) (old between new : State) → KeepsSavepoints c old between → KeepsSavepoints c between new → KeepsSavepoints c old new
keeps_on c old between new first second = record {
  levels = second.levels ∙ first.levels;
  maps = λ n less. second.maps n (subst (λ k. n < k) (sym first.levels) less) ∙ first.maps n less;
}

keeps_by : (c : ℕ) (old new : State) (g : List Entry) → new.history ≡ g → level_count c g ≡ level_count c old.history → SameLevels (level_count c old.history) c old.history g → KeepsSavepoints c old new
keeps_by c old new g is levels maps = record { levels = ap (level_count c) is ∙ levels; maps = λ n less. ap (map_at c n) is ∙ maps n less }

-- An operation leaves the savepoints and their maps unchanged.
kept_done : (old new : State) (c : ℕ) (op : Op) (x : Option ℕ) → IsLegal (holder_by old.words) old.limits.stripes old.history → Operates old c op (answers.Done x) new → KeepsSavepoints c old new
kept_done old new c op x legal (s1, ask, (s2, seek, (s3, did, last))) =
    let base : Map = based c old in
    let stands = ready old c _ legal ask.move.allowed.0 in
    let locked = (and_parts (has_stamp_for old op) _ ask.move.allowed.1).1 in
    let w = waits old s1 s2 c base op stands ask seek in
    let right = replied s2 c base op x w.stands did.move.allowed.1 in
    let dones = did_levels s2.limits c base s2.history op x w.stands right in
    keeps_on c old s1 new
    (keeps_by c old s1 (old.history ++ entry.Asked c op ∷ []) (ap history_of ask.move.state)
    (asked_number old.limits c base old.history op stands locked) (λ n less. asked_levels old.limits c base old.history op stands locked n))
    (keeps_on c s1 s2 new (keeps_same c s1 s2 (ap history_of seek.move.state ∙ append-nil s1.history))
    (keeps_by c s2 new (s2.history ++ entry.Did c x ∷ []) (ap history_of last ∙ ap history_of did.move.state) dones.0 dones.1))

pub keeps_operated : (old new : State) (c : ℕ) (op : Op) (answer : Answer) → IsLegal (holder_by old.words) old.limits.stripes old.history → Operates old c op answer new → KeepsSavepoints c old new
keeps_operated old new c op (answers.Done x) legal operates = kept_done old new c op x legal operates
keeps_operated old new c op (answers.Refused refusal) legal event = keeps_same c old new (ap history_of event.move.state)
keeps_operated old new c op (answers.Busy x) legal event =
    let stands = ready old c _ legal event.move.allowed.0 in
    let locked = (and_parts (old.words || has_stamp_for old op) _ event.move.allowed.1).1 in
    let is = busy_levels old.limits c (based c old) old.history op x stands locked in
    keeps_by c old new (old.history ++ entry.Busy c op x ∷ []) (ap history_of event.move.state) is.0 (λ n less. is.1 n)
keeps_operated old new c op answers.Asked legal none = absurd none
keeps_operated old new c op _ legal event = absurd event.move.allowed.1

-- If a savepoint is set, it has the present map and is above all levels that the caller had.
pub is_saved : (old new : State) (c n : ℕ) → IsLegal (holder_by old.words) old.limits.stripes old.history → Move old (Save c) (answers.Saved n) new → IsSaved c n old new
is_saved old new c n legal move =
    let stands = ready old c _ legal move.allowed.0 in
    let is = saved_levels old.limits c (based c old) old.history stands in
    let here : n ≡ level_count c old.history = move.allowed.1 in record {
      number = here;
      levels = ap (λ (s : State). level_count c s.history) move.state ∙ is.0 ∙ ap (λ k. k + 1) (sym here);
      map = ap (λ (s : State). map_at c n s.history) move.state ∙ ap (λ k. map_at c k (old.history ++ entry.Saved c ∷ [])) here ∙ is.1;
      maps = λ k less. ap (λ (s : State). map_at c k s.history) move.state ∙ is.2 k (subst (λ j. k < j) here less);
    }

-- A caller is going back to a level. This level and all levels below it have kept their maps.
record IsOnWay (c n : ℕ) (base : Map) (old new : State) : Type 0 where
  pub stands : IsAt c base (LeavingTo n) new
  pub maps : KeepsLevels (n + 1) c old new

one_back : (start old between new : State) (c : ℕ) (base : Map) (n : ℕ) → IsOnWay c n base start old → Move old (Seek c) answers.Placed between → Move between (Act c) answers.Undone new → IsOnWay c n base start new
one_back start old between new c base n way seek act =
    let sought = to_state c base (LeavingTo n) _ between seek.state (unmoved c base (LeavingTo n) old way.stands) in
    let job : has_job sought.stance ≡ true = subst (λ (stance : Stance). has_job stance ≡ true) (phase_in c base (LeavingTo n) between sought) act.allowed.1 in
    let more : nat_lt (slice_index sought.stance.kept n) sought.stance.standing ≡ true = subst (λ q. has_job (record (sought.stance) { phase = q }) ≡ true) sought.phase_is job in
    let is_more = ltb-true (slice_index sought.stance.kept n) sought.stance.standing more in
    record {
      stands = to_state c base (LeavingTo n) _ new act.state (undone_to_now between.limits c base between.history n sought is_more);
      maps = λ k less.
          ap (λ (s : State). map_at c k s.history) act.state
          ∙ (undone_levels between.limits c base between.history n sought is_more).1 k less
          ∙ ap (λ (s : State). map_at c k s.history) seek.state ∙ ap (map_at c k) (append-nil old.history)
          ∙ way.maps k less;
    }

backwards : (start old new : State) (c : ℕ) (base : Map) (n changes : ℕ) (steps : List Step) (others : List Answer) → IsOnWay c n base start old → Moves old (undoing changes c steps) (undone changes others) new
    → (between : State) × IsOnWay c n base start between × Moves between steps others new
backwards start old new c base n zero steps others way moves = (old, way, moves)
backwards start old new c base n (suc changes) steps others way moves =
    let (between, there, (s1, seek, (s2, act, rest))) = backwards start old new c base n changes (Seek c ∷ Act c ∷ steps) (answers.Placed ∷ answers.Undone ∷ others) way moves in
    (s2, one_back start between s1 s2 c base n there seek.move act.move, rest)

pub is_back : (old new : State) (c n m : ℕ) → IsLegal (holder_by old.words) old.limits.stripes old.history → IsShaped new.history → Returns old c n (answers.Returned m) new → IsBackAt c n old new
is_back old new c n m legal shaped (same, left, leave, (changes, moves)) =
    let base : Map = based c old in
    let stands = ready old c _ legal leave.move.allowed.0 in
    let level = first_none (nat_le (level_count c old.history) n) refusals.NoSuchLevel None
    (past old c (cond (nat_le (level_count c old.history) n) (Some refusals.NoSuchLevel) None) leave.move.allowed.0) in
    let within : n < length stands.stance.kept = leb-false (length stands.stance.kept) n (subst (λ (stance : Stance). nat_le (length stance.kept) n ≡ false) (phase_in c base Opened old stands) level.0) in
    let gone = to_state c base (LeavingTo n) _ left leave.move.state (left_to_now old.limits c base old.history n stands within) in
    let lefts = left_levels old.limits c base old.history n stands within in
    let way : IsOnWay c n base old left = record { stands = gone; maps = λ k less. ap (λ (s : State). map_at c k s.history) leave.move.state ∙ lefts.1 k } in
    let (between, there, (s1, act, last)) = backwards old left new c base n changes (Act c ∷ []) (answers.Returned m ∷ []) way moves in
    let whole : IsShaped (between.history ++ entry.Returned c m ∷ []) = subst IsShaped (ap history_of last ∙ ap history_of act.move.state) shaped in
    let at = reached_at c n m between.history there.stands.stance there.stands.stance_is there.stands.phase_is whole in
    let backs = returned_levels between.limits c base between.history n there.stands at.1 in
    let ends : new.history ≡ between.history ++ entry.Returned c n ∷ [] =
    ap history_of last ∙ ap history_of act.move.state ∙ ap (λ k. between.history ++ entry.Returned c k ∷ []) (sym at.0) in
    let top : n < n + 1 = omega arith in record {
      map = ap now ends ∙ backs.0 ∙ there.maps n top;
      levels = ap (level_count c) ends ∙ backs.1;
      maps = λ k less. ap (map_at c k) ends ∙ backs.2 k less ∙ there.maps k less;
    }
