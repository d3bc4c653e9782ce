use Rattle.std.proofs.Common.{refl, Result, Ok, Err, IfOk}
use Rattle.striped_map.proofs.open.new_records.Goals as goal

if_ok : {X E : Type 0} {P Q : X → Type 0} → ((x : X) → P x → Q x) → (r : Result X E) → IfOk r P → IfOk r Q
if_ok f (Ok x) p = f x p
if_ok f (Err e) p = tt

pub returns-in-Entries : goal.returns-in-Entries
returns-in-Entries c = if_ok (λ theirs is. (65535, is, λ all. refl)) c.empty_records.result c.empty_records.ensures
