use Rattle.std.proofs.Common.{◌≡◌, ℕ, ◌^◌, ◌<◌, List, Option, Some, None, false, All, refl, sym, subst}
use Rattle.std.specs.List.{slice_get}
use Rattle.std.proofs.lemmas.Result.{err_from_is_err_and}
use Rattle.std.proofs.lemmas.Option.{slice_get_within}
use Rattle.node_list.specs.Nodes.{Listing}
use Rattle.node_list.specs.Order.{IsVacant}
use Rattle.list_steps.specs.declared.cursor.Cursor.{Cursor}
use Rattle.list_steps.specs.Found.{at_of, pred_of}
use Rattle.list_steps.specs.Steps.{Finds}
use Rattle.split_key.specs.Sort.{dummy_at}
use Rattle.bucket_table.specs.declared.helper.Helper.{Helper}
use Rattle.bucket_table.specs.declared.helper.Helper.TheVariants.{Seeking}
use Rattle.bucket_table.specs.Dummies.{IsDummyAt, IsKeyed, has_dummy}
use Rattle.bucket_table.specs.Home.{IsHelperHome}
use Rattle.bucket_table.proofs.DirectoryLemmas.{helper_found}
use Rattle.bucket_table.proofs.HomeLemmas.{still_home, home_with_helper}
use Rattle.bucket_table.proofs.LinkLemmas.{there_dummy, there_had, absent_not_had, answer_present, answer_linked, answer_refused, answer_no_memory}
use Rattle.bucket_table.proofs.buckets.Buckets.link_at.Goals as goal

own_split : (l : Listing) (helpers : List Helper) (helper bucket : ℕ) (cursor : Cursor) → All (IsHelperHome l) helpers → slice_get helpers helper ≡ Some (Seeking bucket cursor) → at_of cursor ≡ dummy_at bucket
own_split l helpers helper bucket cursor home had = (helper_found (IsHelperHome l) helpers helper (Seeking bucket cursor) home had).1

-- If a cursor for a bucket's dummy finds no node, the position of that dummy is right after the
-- cursor's first node.
room : (l : Listing) (cursor : Cursor) (bucket : ℕ) (found : Option ℕ) → at_of cursor ≡ dummy_at bucket → found ≡ None → Finds l cursor found → IsVacant l.nodes (pred_of cursor) (dummy_at bucket)
room l cursor bucket found sought is finds =
    let P : Option ℕ → Type 0 = Finds l cursor in
    let absent = subst P is finds in
    subst (IsVacant l.nodes (pred_of cursor)) sought absent.vacant

pub link_dummy-requires : goal.link_dummy-requires
link_dummy-requires c =
    let sought = own_split _ _ _ _ _ c.requires.home.helpers c.requires.had in
    rw c.pred.ensures (room _ _ _ _ sought c.in-Ok-None.field-0-is c.in-Ok-None.ensures.ok)

pub set_helper-requires-in-Ok-None-clause-there : goal.set_helper-requires-in-Ok-None-clause-there
set_helper-requires-in-Ok-None-clause-there c = slice_get_within _ _ _ c.requires.had

-- If a cursor for a bucket's dummy finds a node, the node is that dummy.
there : (l : Listing) (cursor : Cursor) (bucket dummy : ℕ) (found : Option ℕ) → bucket < 2 ^ 32 → IsKeyed l.nodes → at_of cursor ≡ dummy_at bucket → found ≡ Some dummy → Finds l cursor found → IsDummyAt l.nodes dummy bucket
there l cursor bucket dummy found fits keyed sought is finds =
    let P : Option ℕ → Type 0 = Finds l cursor in
    there_dummy l cursor bucket dummy fits keyed sought (subst P is finds)

-- If a cursor for a bucket's dummy finds no node, that dummy is not linked.
none : (l : Listing) (cursor : Cursor) (bucket : ℕ) (found : Option ℕ) → at_of cursor ≡ dummy_at bucket → found ≡ None → Finds l cursor found → has_dummy l.nodes bucket ≡ false
none l cursor bucket found sought is finds =
    let P : Option ℕ → Type 0 = Finds l cursor in
    absent_not_had l cursor bucket sought (subst P is finds)

pub returns-in-Ok-Some-clause-answer : goal.returns-in-Ok-Some-clause-answer
returns-in-Ok-Some-clause-answer c other =
    let sought = own_split _ _ _ _ _ c.requires.home.helpers c.requires.had in
    let dummy = there _ _ _ _ _ c.ranges.bucket.fits c.requires.keyed sought c.in-Ok-Some.field-0-is c.in-Ok-Some.ensures.ok in
    sym (answer_present c.args.self.now c.args.list.now c.args.helper c.args.bucket c.args.cursor c.requires.had (sym c.in-Ok-Some.ensures.again) (there_had c.args.list.now _ _ dummy))

pub returns-in-Ok-Some-clause-changes : goal.returns-in-Ok-Some-clause-changes
returns-in-Ok-Some-clause-changes c =
    let sought = own_split _ _ _ _ _ c.requires.home.helpers c.requires.had in (
      record {
        bucket = c.args.bucket;
        cursor = c.args.cursor;
        place = c.in-Ok-Some.dummy;
        had = c.requires.had;
        now = c.set_helper-in-Ok-Some.ensures;
        dummy = there _ _ _ _ _ c.ranges.bucket.fits c.requires.keyed sought c.in-Ok-Some.field-0-is c.in-Ok-Some.ensures.ok;
      },
      refl,
    )

pub returns-in-Ok-Some-clause-home : goal.returns-in-Ok-Some-clause-home
returns-in-Ok-Some-clause-home c =
    let sought = own_split _ _ _ _ _ c.requires.home.helpers c.requires.had in
    rw c.set_helper-in-Ok-Some.ensures
    (home_with_helper _ _ c.requires.home _ _ (there _ _ _ _ _ c.ranges.bucket.fits c.requires.keyed sought c.in-Ok-Some.field-0-is c.in-Ok-Some.ensures.ok))

pub returns-in_ok-dummy-in-Ok-None-clause-answer : goal.returns-in_ok-dummy-in-Ok-None-clause-answer
returns-in_ok-dummy-in-Ok-None-clause-answer c other =
    let sought = own_split _ _ _ _ _ c.requires.home.helpers c.requires.had in
    let absent = none _ _ _ _ sought c.in-Ok-None.field-0-is c.in-Ok-None.ensures.ok in
    sym (answer_linked c.args.self.now c.args.list.now c.args.helper c.args.bucket c.args.cursor c.requires.had (sym c.in-Ok-None.ensures.again) absent c.in_ok-dummy-in-Ok-None.ensures.ok.room)

pub returns-in_ok-dummy-in-Ok-None-clause-home : goal.returns-in_ok-dummy-in-Ok-None-clause-home
returns-in_ok-dummy-in-Ok-None-clause-home c =
    rw c.set_helper-in-Ok-None.ensures
    (home_with_helper _ _ (still_home _ _ c.link_dummy.ensures.follows _ c.requires.home) _ _ c.in_ok-dummy-in-Ok-None.ensures.ok.dummy)

pub returns-in_err-dummy-in-Ok-None-clause-answer : goal.returns-in_err-dummy-in-Ok-None-clause-answer
returns-in_err-dummy-in-Ok-None-clause-answer c =
    let sought = own_split _ _ _ _ _ c.requires.home.helpers c.requires.had in
    let absent = none _ _ _ _ sought c.in-Ok-None.field-0-is c.in-Ok-None.ensures.ok in
    let p = err_from_is_err_and c.from_residual.result c.from_residual.ensures.1 in
    rw (p.1, p.2) (answer_refused c.args.self.now c.args.list.now c.args.helper c.args.bucket c.args.cursor c.requires.had (sym c.in-Ok-None.ensures.again) _ _ absent c.in_err-dummy-in-Ok-None.ensures.err)

pub returns-in_err-dummy-in-Ok-None-clause-no_memory : goal.returns-in_err-dummy-in-Ok-None-clause-no_memory
returns-in_err-dummy-in-Ok-None-clause-no_memory c =
    let sought = own_split _ _ _ _ _ c.requires.home.helpers c.requires.had in
    let absent = none _ _ _ _ sought c.in-Ok-None.field-0-is c.in-Ok-None.ensures.ok in
    let p = err_from_is_err_and c.from_residual.result c.from_residual.ensures.1 in
    rw (p.1, p.2) (answer_no_memory c.args.self.now c.args.list.now c.args.helper c.args.bucket c.args.cursor c.requires.had (sym c.in-Ok-None.ensures.again) _ _ absent c.in_err-dummy-in-Ok-None.ensures.err)

pub returns-in_ok-dummy-in-Ok-None-clause-changes : goal.returns-in_ok-dummy-in-Ok-None-clause-changes
returns-in_ok-dummy-in-Ok-None-clause-changes c = record {
  bucket = c.args.bucket;
  cursor = c.args.cursor;
  place = c.in_ok-dummy-in-Ok-None.dummy;
  had = c.requires.had;
  now = c.set_helper-in-Ok-None.ensures;
  links = rw (← c.pred.ensures) c.in_ok-dummy-in-Ok-None.ensures.ok;
}
