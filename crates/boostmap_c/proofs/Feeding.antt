-- What `FedAll` and `FedFront` say after a referee is fed one more entry. Assumes nothing.
use Rattle.std.proofs.Common.{◌≡◌, ◌≢◌, ℕ, zero, suc, ◌+◌, ◌<◌, List, [], ◌∷◌, ◌++◌, length, take, get_or, sym, refl, subst}
use Rattle.std.proofs.lemmas.List.{take_more}
use Rattle.std.proofs.lemmas.Option.{slice_get-get_or}
use Rattle.boostmap_c.specs.declared.c_entry.CEntry.{CEntry}
use Rattle.boostmap_c.specs.declared.referee.Referee.{Referee}
use Rattle.boostmap_c.specs.Entries.{judged_entry}
use Rattle.boostmap_c.specs.Replies.{done}
use Rattle.boostmap_c.specs.Judges.{FedAll, FedFront, FeedsEntry}

fed_more : (es : List CEntry) (e : CEntry) (a b c : Referee) → FedAll es a b → FeedsEntry (judged_entry e) b done c → FedAll (es ++ e ∷ []) a c
fed_more [] e a b c same fed = (c, subst (λ (x : Referee). FeedsEntry (judged_entry e) x done c) same fed, refl)
fed_more (f ∷ es) e a b c fed step = (fed.0, fed.1, fed_more es e fed.0 b c fed.2 step)

pub fed_next : (es : List CEntry) (i : ℕ) (d : CEntry) (a b c : Referee) (status : ℕ) → i < length es → FedAll (take i es) a b → FeedsEntry (judged_entry (get_or es i d)) b status c → status ≡ done → FedAll (take (i + 1) es) a c
fed_next es i d a b c status lt fed step is =
    subst (λ (xs : List CEntry). FedAll xs a c) (sym (take_more es i d lt))
    (fed_more (take i es) (get_or es i d) a b c fed (subst (λ (s : ℕ). FeedsEntry (judged_entry (get_or es i d)) b s c) is step))

pub fed_front : (es : List CEntry) (i : ℕ) (d : CEntry) (a b c : Referee) (status : ℕ) → i < length es → FedAll (take i es) a b → FeedsEntry (judged_entry (get_or es i d)) b status c → status ≢ done → FedFront es a status i c
fed_front es i d a b c zero lt fed step ne = absurd (ne refl)
fed_front es i d a b c (suc status) lt fed step ne = (get_or es i d, slice_get-get_or es i d lt, b, fed, step)
