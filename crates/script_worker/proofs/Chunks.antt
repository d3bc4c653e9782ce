-- Shows that a script's entries are its account once it is over, because each call leads from one
-- chunk to the next, and an attempt that was busy commits nothing.
use Rattle.std.proofs.Common.{◌≡◌, ℕ, zero, suc, Bool, false, List, ◌∷◌, ◌++◌, filter, refl, ap, ◌∙◌, ◌+◌, [], not, length, length-append}
use Rattle.std.proofs.Common.{append_assoc, append-nil, Option, arith, nat_lt, true, if◌then◌else◌, drop, drop-cons, slice_get, Some, None}
use Rattle.std.proofs.Common.{sym, add-one, ltb-false}
use Rattle.script_worker.proofs.Vocabulary.{Acting, Action, Answer, append_quiet, AreBusy, ArePlayed, Attempt, attempt_at, Beginning}
use Rattle.script_worker.proofs.Vocabulary.{busy_at, Call, call_at, call_of, CommitNothing, done_at, done_with, drop_all, End, Entry}
use Rattle.script_worker.proofs.Vocabulary.{filter-append, filter_map-append, Finish, first_heard, get_or_from_slice_get, Heard, heard_then}
use Rattle.script_worker.proofs.Vocabulary.{how_many, is_busy, is_commit, is_undone, IsAccount, IsAtStage, IsChunk, IsFront, IsMade}
use Rattle.script_worker.proofs.Vocabulary.{IsPlayedBy, IsQuiet, MakesNone, Leaving, Next, outcome_by, OutOfStep, Over, Progress}
use Rattle.script_worker.proofs.Vocabulary.{progress_at, progress_of, Refusal, progress_refused, refused_with, replies_in, replies_then, reply_in}
use Rattle.script_worker.proofs.Vocabulary.{slice_get_within, Stage, txn_then, Undone, undone_by, without_undone}
use Rattle.script_worker.proofs.Every.{get_none}

pub how_many-append : (test : Entry → Bool) (xs ys : List Entry) → how_many test (xs ++ ys) ≡ how_many test xs + how_many test ys
how_many-append test xs ys = ap length (filter-append test xs ys) ∙ length-append (filter test xs) (filter test ys)

busy_more : (n : ℕ) (es fs : List Entry) → AreBusy n es → AreBusy 1 fs → AreBusy (n + 1) (es ++ fs)
busy_more n es fs busy one = record {
  nothing = append_quiet es fs busy.nothing one.nothing;
  enough = omega (arith, how_many-append is_busy es fs, busy.enough, one.enough);
}

-- If no Undone entry passes a test, Undone entries in front of a list do not change which entries
-- of the list pass.
filter_undone : (test : Entry → Bool) (c k : ℕ) (rest : List Entry) → test (Undone c) ≡ false
    → filter test (undone_by c k ++ rest) ≡ filter test rest
filter_undone test c zero rest never = refl
filter_undone test c (suc k) rest never = rw never (filter_undone test c k rest never)

undone_replies : (c k : ℕ) (rest : List Entry) → replies_in (undone_by c k ++ rest) ≡ replies_in rest
undone_replies c zero rest = refl
undone_replies c (suc k) rest = undone_replies c k rest

from_here : (script : List Action) (i : ℕ) (action : Action) → slice_get script i ≡ Some action → drop i script ≡ action ∷ drop (i + 1) script
from_here script i action is =
    rw (drop-cons script i action (slice_get_within script i action is), get_or_from_slice_get script i action action is, add-one i)

-- The chunk at the beginning of a script is empty.
pub chunk_begun : (c : ℕ) (script : List Action) → IsChunk c script first_heard []
chunk_begun c script = record { before = []; part = []; whole = refl; busy = record { nothing = refl; enough = omega arith }; at = refl }

-- What must be true, after a call, of the entries since the script began. If another call follows,
-- the entries are the chunk of this call's attempt. If the script is over, the entries are the
-- account of the script.
abbrev pub ChunkAfter : ℕ → ℕ → List Action → Heard → List Entry → End → Progress → Type 0
ChunkAfter c tries script heard chunk end (Next attempt) = IsChunk c script (heard_then heard end attempt) chunk
ChunkAfter c tries script heard chunk end (Over finish) = IsAccount c tries script (outcome_by finish end heard) chunk

module _ (c tries : ℕ) (script : List Action) (heard : Heard) (before part : List Entry) (busy : AreBusy heard.attempt.again before) where
  abbrev again : ℕ
  again = heard.attempt.again

  abbrev After : List Entry → End → Progress → Type 0
  After added end progress = ChunkAfter c tries script heard (before ++ (part ++ added)) end progress

  all_quiet : (added : List Entry) → CommitNothing part → CommitNothing added → CommitNothing (before ++ (part ++ added))
  all_quiet added quiet silent = append_quiet before (part ++ added) busy.nothing (append_quiet part added quiet silent)

  -- If a call finds its stripe held by another caller, `AreBusy` counts it as an attempt.
  busy_one : (call : Call) (x : ℕ) (added : List Entry) → IsMade c call (End.Busy x) added → AreBusy 1 added
  busy_one (Call.Op op) x added (undone, is) =
      let none = ap length (filter_undone is_busy c undone (Entry.Aborted c ∷ []) refl) in
      rw is (record { nothing = filter_undone is_commit c undone (Entry.Aborted c ∷ []) refl; enough = omega (arith, none) })
  busy_one call x added made = absurd made

  after_busy : (x : ℕ) (added : List Entry) → CommitNothing part → AreBusy 1 added → After added (End.Busy x) (busy_at tries again)
  after_busy x added quiet one = at (nat_lt again tries) refl
    where
      more : AreBusy (again + 1) (before ++ (part ++ added))
      more = busy_more again before (part ++ added) busy (busy_more 0 part added (record { nothing = quiet; enough = omega arith }) one)

      at : (b : Bool) → nat_lt again tries ≡ b → After added (End.Busy x) (if b then Next (attempt_at (again + 1) Beginning) else Over Finish.Busy)
      at true is = record { before = _; part = []; whole = sym (append-nil _); busy = more; at = refl }
      at false is = record { nothing = more.nothing; enough = omega (arith, more.enough, ltb-false again tries is) }

  -- After an action that succeeded, `ChunkAfter` holds for the same attempt at its next action.
  goes : (i : ℕ) (action : Action) (end : End) (es added : List Entry) → slice_get script i ≡ Some action → added ≡ es
      → txn_then heard.txn end ≡ heard.txn → replies_then heard.replies end ≡ heard.replies ++ replies_in es → CommitNothing es
      → ((rest : List Entry) → ArePlayed (drop (i + 1) script) rest → ArePlayed (action ∷ drop (i + 1) script) (without_undone es ++ rest))
      → IsFront c script (drop i script) heard.txn heard.replies part → After added end (Next (attempt_at again (Acting (i + 1))))
  goes i action end es added here is same replied quiet asked front =
      let further : IsFront c script (drop (i + 1) script) heard.txn (heard.replies ++ replies_in es) (part ++ es) = record {
        inner = front.inner ++ es;
        whole = ap (λ xs. xs ++ es) front.whole;
        quiet = append_quiet part es front.quiet quiet;
        replied = filter_map-append reply_in part es ∙ ap (λ rs. rs ++ replies_in es) front.replied;
        goes = λ rest plays. rw (filter-append (λ e. not (is_undone e)) part es, append_assoc)
            (front.goes (without_undone es ++ rest) (rw (from_here script i action here) (asked rest plays)));
      } in
      rw is (record { before = before; part = part ++ es; whole = refl; busy = busy; at = rw (same, replied) further })

  none_more : heard.replies ≡ heard.replies ++ []
  none_more = sym (append-nil heard.replies)

  aborted : (added : List Entry) → IsMade c Call.Abort (End.Answered Answer.Aborted) added → CommitNothing part
      → CommitNothing (before ++ (part ++ added))
  aborted added made quiet =
      all_quiet added quiet (ap (filter is_commit) made.1 ∙ filter_undone is_commit c made.0 (Entry.Aborted c ∷ []) refl)

  done_told : (stage : Stage) (a : Answer) (added : List Entry) → IsMade c (call_at script stage) (End.Answered a) added → IsAtStage c script heard part stage → After added (End.Answered a) (done_at script again stage)
  done_told Beginning (Answer.Began t) added made none =
      let front : IsFront c script script t [] added =
      rw made (record { inner = []; whole = refl; quiet = refl; replied = refl; goes = λ rest plays. plays }) in
      record { before = before; part = part ++ added; whole = refl; busy = busy; at = rw none front }
  done_told (Acting i) a added made front = by (slice_get script i) refl a made
    where
      by : (o : Option Action) → slice_get script i ≡ o → (a : Answer) → IsMade c (call_of o) (End.Answered a) added
          → After added (End.Answered a) (done_with again i o)
      by None here (Answer.Committed place) made =
          let done = rw (drop_all i script (get_none script i here)) at front in
          let commit : List Entry = Entry.Committed c place ∷ [] in
          let played : IsPlayedBy c script heard.txn place heard.replies (part ++ commit) = record {
            inner = done.inner;
            whole = ap (λ xs. xs ++ commit) done.whole;
            plays = rw (filter-append (λ e. not (is_undone e)) part commit) (done.goes commit tt);
            replied = filter_map-append reply_in part commit ∙ append-nil (replies_in part) ∙ done.replied;
          } in
          rw made (before, part ++ commit, refl, busy.nothing, played)
      by (Some (Action.Op op)) here (Answer.Done reply) made =
          goes i (Action.Op op) (End.Answered (Answer.Done reply)) (Entry.Asked c op ∷ Entry.Did c reply ∷ []) added here made refl refl refl (λ rest plays. (refl, plays)) front
      by (Some Action.Save) here (Answer.Saved n) made =
          goes i Action.Save (End.Answered (Answer.Saved n)) (Entry.Saved c ∷ []) added here made refl none_more refl (λ rest plays. plays) front
      by (Some (Action.Back level)) here (Answer.Returned reached) made =
          let k : ℕ = made.1.0 in
          let back : Entry = Entry.Returned c level in
          goes i (Action.Back level) (End.Answered (Answer.Returned reached)) (Entry.Leave c (Some level) ∷ undone_by c k ++ back ∷ []) added here made.1.1 refl
          (none_more ∙ ap (λ rs. heard.replies ++ rs) (sym (undone_replies c k (back ∷ [])))) (filter_undone is_commit c k (back ∷ []) refl)
          (λ rest plays. rw (filter_undone (λ e. not (is_undone e)) c k (back ∷ []) refl) (refl, refl, plays)) front
      by (Some Action.Abort) here Answer.Aborted made = aborted added made front.quiet
      by o here a made = absurd made
  done_told (Leaving refusal) Answer.Aborted added made quiet = aborted added made quiet
  done_told stage a added made at = absurd made

  helped_told : (stage : Stage) (added : List Entry) → IsMade c (call_at script stage) End.Helped added → IsAtStage c script heard part stage → After added End.Helped (done_at script again stage)
  helped_told (Acting i) added made front = by (slice_get script i) refl made
    where
      by : (o : Option Action) → slice_get script i ≡ o → IsMade c (call_of o) End.Helped added → After added End.Helped (done_with again i o)
      by (Some (Action.Help key)) here made =
          goes i (Action.Help key) End.Helped [] added here made refl none_more refl (λ rest plays. plays) front
      by o here made = absurd made
  helped_told stage added made at = absurd made

  stage_quiet : (stage : Stage) → IsAtStage c script heard part stage → CommitNothing part
  stage_quiet Beginning at = ap (filter is_commit) at
  stage_quiet (Acting i) at = at.quiet
  stage_quiet (Leaving refusal) at = at

  -- If a refused call has added no entry that commits, `ChunkAfter` holds after the call.
  refused_action : (refusal : Refusal) (o : Option Action) (added : List Entry) → CommitNothing added → CommitNothing part
      → After added (End.Refused refusal) (refused_with again o refusal)
  refused_action refusal None added silent quiet = all_quiet added quiet silent
  refused_action refusal (Some Action.Abort) added silent quiet = all_quiet added quiet silent
  refused_action refusal (Some action) added silent quiet =
      record { before = before; part = part ++ added; whole = refl; busy = busy; at = append_quiet part added quiet silent }

  refused_told : (stage : Stage) (refusal : Refusal) (added : List Entry) → MakesNone refusal added → IsQuiet (End.Refused refusal) added
      → CommitNothing part → After added (End.Refused refusal) (progress_refused script again stage refusal)
  refused_told stage OutOfStep added made silent quiet = all_quiet added quiet silent
  refused_told (Acting i) refusal added none silent quiet =
      refused_action refusal (slice_get script i) added (ap (filter is_commit) none) quiet
  refused_told stage refusal added none silent quiet = all_quiet added quiet (ap (filter is_commit) none)

  told_at : (stage : Stage) (end : End) (added : List Entry) → IsMade c (call_at script stage) end added → IsQuiet end added → IsAtStage c script heard part stage → After added end (progress_at script tries again stage end)
  told_at stage (End.Answered a) added made silent at = done_told stage a added made at
  told_at stage End.Helped added made silent at = helped_told stage added made at
  told_at stage (End.Busy x) added made silent at = after_busy x added (stage_quiet stage at) (busy_one (call_at script stage) x added made)
  told_at stage (End.Refused refusal) added made silent at = refused_told stage refusal added made silent (stage_quiet stage at)

-- If `IsChunk` holds for the entries of a script before a call, `ChunkAfter` holds for these
-- entries followed by those that the call adds.
pub after_call : (c tries : ℕ) (script : List Action) (heard : Heard) (chunk added : List Entry) (end : End) (p : Progress)
    → IsMade c (call_at script heard.attempt.stage) end added → IsQuiet end added → IsChunk c script heard chunk
    → progress_of script tries heard.attempt end ≡ p → ChunkAfter c tries script heard (chunk ++ added) end p
after_call c tries script heard chunk added end p made silent so_far is =
    rw (so_far.whole, append_assoc, ← is)
    (told_at c tries script heard so_far.before so_far.part so_far.busy heard.attempt.stage end added made silent so_far.at)

-- If a script makes another call after a call has ended with `end`, then `end` is not `OutOfStep`,
-- so `IsQuiet` holds.
pub goes_quiet : (script : List Action) (tries : ℕ) (attempt next : Attempt) (end : End) (added : List Entry)
    → progress_of script tries attempt end ≡ Next next → IsQuiet end added
goes_quiet script tries attempt next (End.Refused OutOfStep) added is = absurd (cc is)
goes_quiet script tries attempt next end added is = tt

-- While a script is not over, no entry in its chunk is a commit.
pub chunk_quiet : (c : ℕ) (script : List Action) (heard : Heard) (chunk : List Entry) → IsChunk c script heard chunk → CommitNothing chunk
chunk_quiet c script heard chunk so_far =
    rw so_far.whole (append_quiet so_far.before so_far.part so_far.busy.nothing
    (stage_quiet c 0 script heard so_far.before so_far.part so_far.busy heard.attempt.stage so_far.at))
