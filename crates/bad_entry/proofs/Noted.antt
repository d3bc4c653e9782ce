-- The desks of all callers, before the first entry and after one more entry.
use Rattle.std.proofs.Common.{get_or, ◌≡◌, ◌≢◌, ℕ, ◌<◌, zero, suc, List, [], ◌∷◌, ◌++◌, None, Option, refl, ap, sym, subst, ◌∙◌, arith, vec_len}
use Rattle.std.specs.Prelude.{slice_get}
use Rattle.std.specs.Option.{IfSome}
use Rattle.std.specs.List.{All}
use Rattle.std.proofs.Math.ListN.{set}
use Rattle.std.proofs.lemmas.Bool.{ne_eqb}
use Rattle.std.proofs.lemmas.List.Elements.{All-head, All-tail}
use Rattle.std.proofs.lemmas.Option.{slice_get_read}
use Rattle.txn_words.specs.declared.entry.Entry.{Entry}
use Rattle.txn_words.specs.declared.entry.Entry.TheVariants.{Began}
use Rattle.txn_trace.specs.History.{txn_after}
use Rattle.txn_words.specs.Kinds.{caller_of}
use Rattle.txn_trace.specs.Log.{Log, log_after, log_step}
use Rattle.txn_words.specs.Shape.{own}
use Rattle.txn_trace.proofs.Pushes.{txn_in-push}
use Rattle.txn_trace.proofs.Logs.{log_after-own, log_after-other}
use Rattle.serial_check.specs.Serializable as serial
use Rattle.history_check.proofs.CallerTable.{each-set, if_some, at_some}
use Rattle.bad_entry.specs.declared.desks.Desk.{Desk}
use Rattle.bad_entry.specs.declared.desks.Desks.{Desks}
use Rattle.bad_entry.specs.Desks.{HaveNoted, IsDeskOf}

-- The desk is that of a caller that has done nothing.
abbrev pub IsFresh : Desk → Type 0
IsFresh desk = (desk.waiting ≡ None) × (desk.txn ≡ None)

fresh_at : (desks : List Desk) → All IsFresh desks → (c k : ℕ) → IfSome (slice_get desks k) (IsDeskOf [] c)
fresh_at [] all c k = tt
fresh_at (x ∷ xs) all c zero = let fresh = All-head IsFresh x xs all in record { waiting = fresh.0; txn = fresh.1 }
fresh_at (x ∷ xs) all c (suc k) = fresh_at xs (All-tail IsFresh x xs all) c k

pub noted-none : (desks : Desks) → All IsFresh desks.table.items → HaveNoted [] desks
noted-none desks fresh = record { each = λ c. fresh_at desks.table.items fresh c c }

-- The desk at an index of the table is that of the caller whose number is the index.
pub noted_at : (h : List Entry) (desks : Desks) (c : ℕ) (desk : Desk) → HaveNoted h desks → c < 64 → desk ≡ get_or desks.table.items c desk → IsDeskOf h c desk
noted_at h desks c desk noted below is =
    at_some (IsDeskOf h c) (slice_get desks.table.items c) desk
    (slice_get_read desks.table.items (vec_len desks.table) c desk desks.table.ok.0 (let all : vec_len desks.table ≡ 64 = desks.all in omega arith) is)
    (noted.each c)

txn-other : (before : ℕ → Option ℕ) (e : Entry) (c : ℕ) → c ≢ caller_of e → txn_after before e c ≡ before c
txn-other before (Began d t) c other = rw (ne_eqb d c (λ is. other (sym is))) refl
txn-other before _ c other = refl

-- If one more entry updates the desk of its caller, `HaveNoted` holds after the entry.
pub noted-push : (h : List Entry) (e : Entry) (old new : Desks) (before after : Desk) → HaveNoted h old → IsDeskOf h (caller_of e) before
    → ((log : Log) → log.pending ≡ before.waiting → (log_step log e).pending ≡ after.waiting)
    → ((txns : ℕ → Option ℕ) → txns (caller_of e) ≡ before.txn → txn_after txns e (caller_of e) ≡ after.txn)
    → new.table.items ≡ set old.table.items (caller_of e) after → HaveNoted (h ++ e ∷ []) new
noted-push h e old new before after noted there waits is_in table_is = record {
  each = λ c. subst (λ xs. IfSome (slice_get xs c) (IsDeskOf (h ++ e ∷ []) c)) (sym table_is)
      (each-set (IsDeskOf (h ++ e ∷ [])) old.table.items (caller_of e) after (record {
        waiting = sym (waits (log_after (own (caller_of e) h)) (sym there.waiting)) ∙ sym (ap (λ (l : Log). l.pending) (log_after-own h e));
        txn = sym (is_in (serial.txn_in h) (sym there.txn)) ∙ sym (ap (λ (f : ℕ → Option ℕ). f (caller_of e)) (txn_in-push h e));
      })
      (λ d other. if_some (IsDeskOf h d) (IsDeskOf (h ++ e ∷ []) d) (slice_get old.table.items d)
      (λ desk sits. record {
        waiting = sits.waiting ∙ sym (ap (λ (l : Log). l.pending) (log_after-other d h e other));
        txn = sits.txn ∙ sym (ap (λ (f : ℕ → Option ℕ). f d) (txn_in-push h e) ∙ txn-other (serial.txn_in h) e d other);
      }) (noted.each d)) c);
}
