-- The effect of linking a dummy.
use Rattle.std.proofs.Common.{◌≡◌, ◌≢◌, ℕ, ◌+◌, ◌-◌, ◌<◌, ◌^◌, ◌↔◌, inl, inr, Some, Result, Ok, Err, true, false, ◌==◌, ◌||◌, refl, sym, ◌∙◌, ap, subst}
use Rattle.std.proofs.lemmas.Bool.{cases_eq}
use Rattle.std.proofs.lemmas.Bool.Decides.{eqb_tells}
use Rattle.node_list.specs.declared.spare.SpareFault.{SpareFault}
use Rattle.node_list.specs.declared.spare.SpareFault.TheVariants.{Worn, NoMemory as SpareNoMemory}
use Rattle.node_list.specs.Nodes.{NodeAt, Listing, SpareAt, GivesOut, IsLinked, out_at, one_more, linked_after}
use Rattle.list_steps.specs.declared.cursor.Cursor.{Cursor}
use Rattle.list_steps.specs.Found.{at_of, fits}
use Rattle.list_steps.specs.Steps.{IsThere, IsAbsent, Links}
use Rattle.split_key.specs.declared.sort.SortKey.{SortKey}
use Rattle.split_key.specs.Sort.{dummy_at}
use Rattle.std.specs.List.{AllByRecursion}
use Rattle.node_list.proofs.OrderLemmas.{each_found}
use Rattle.bucket_table.specs.declared.answer.InitLink.{InitLink}
use Rattle.bucket_table.specs.declared.answer.InitLink.TheVariants.{Present, Linked}
use Rattle.bucket_table.specs.declared.answer.InitRefusal.{InitRefusal}
use Rattle.bucket_table.specs.declared.answer.InitRefusal.TheVariants.{NoSuchBucket, ParentMissing, NoSuchHelper, HelperOutOfOrder, NoMemory, StampsUsedUp}
use Rattle.bucket_table.specs.declared.helper.Helper.TheVariants.{Seeking}
use Rattle.bucket_table.specs.Answers.{link_answer_at}
use Rattle.bucket_table.specs.Directory.{Directory, helper_of}
use Rattle.bucket_table.specs.Dummies.{IsDummyAt, IsKeyed, IsKeyedNode, dummy_node, has_dummy, is_dummy_of}
use Rattle.bucket_table.specs.Links.{IsUnlinked, LinksAt}
use Rattle.bucket_table.specs.Refusals.{refusal_of}
use Rattle.bucket_table.proofs.DummyLemmas.{has_dummy-linked_after, is_dummy_of-dummy_node, dummy_there, dummy_had, no_dummy}

-- If the list gives no spare and is unchanged, `IsUnlinked` holds for the refusal that `refusal_of`
-- gives.
pub unlinked : (before after : Listing) (fault : SpareFault) → (◌≡◌ {A = Result SpareAt SpareFault} (Err fault) (Err Worn) ↔ (before.last ≡ 2 ^ 64 - 2)) → after ≡ before → IsUnlinked before after (refusal_of fault)
unlinked before after Worn worn same = (same, worn.0 refl)
unlinked before after SpareNoMemory worn same = (same, λ last. absurd (cc (worn.1 last)))

module _ (before middle after : Listing) (pred bucket place stamp : ℕ) where
  -- If the list gives a spare, and the spare is linked as the bucket's dummy, `LinksAt` holds.
  pub links_at : GivesOut before middle place stamp → stamp ≡ before.last + 1 → before.last ≢ 2 ^ 64 - 2 → bucket < 2 ^ 32 → IsLinked middle.nodes pred
      → (x : NodeAt) → x ≡ dummy_node place bucket stamp → Links middle after pred x → LinksAt before after pred bucket place
  links_at given next last fits linked x is links =
      let at_place : x.place ≡ place = ap (λ (v : NodeAt). v.place) is in
      record {
        linked = subst (λ ns. IsLinked ns pred) given.nodes linked;
        nodes = links.takes.nodes ∙ ap (λ ns. linked_after ns pred x) given.nodes ∙ ap (λ v. linked_after before.nodes pred v) (is ∙ ap (λ s. dummy_node place bucket s) next);
        dummy = record {
          node = x;
          is = rw (← at_place) links.linked;
          kind = ap (λ (v : NodeAt). v.kind) is;
          at = ap (λ (v : NodeAt). v.at) is;
        };
        head = links.takes.head ∙ given.head;
        changes = links.takes.changes ∙ ap one_more given.changes;
        last = links.takes.last ∙ given.last ∙ next;
        room = last;
        out = λ other. elim (cases_eq other place) [
          | inl here ↦ rw here (ap (out_at after) (sym at_place) ∙ links.takes.gone ∙ sym given.was_free)
          | inr apart ↦ links.takes.others other (λ same. apart (same ∙ at_place)) ∙ given.others other apart
        ];
        dummies = λ other other_fits.
            let more = has_dummy-linked_after middle.nodes pred x other linked in
            let own = ap (λ v. is_dummy_of other v) is ∙ is_dummy_of-dummy_node place bucket stamp other fits other_fits in
            ap (λ ns. has_dummy ns other) links.takes.nodes ∙ more ∙ ap (λ b. b || has_dummy middle.nodes other) own ∙ ap (λ ns. (bucket == other) || has_dummy ns other) given.nodes;
      }

-- If a cursor for a bucket's dummy finds a node, the node is that dummy.
pub there_dummy : (l : Listing) (cursor : Cursor) (bucket place : ℕ) → bucket < 2 ^ 32 → IsKeyed l.nodes → at_of cursor ≡ dummy_at bucket → IsThere l cursor place → IsDummyAt l.nodes place bucket
there_dummy l cursor bucket place fits keyed sought there =
    let same = there.at ∙ sought in
    record {
      node = there.node;
      is = there.is;
      kind = dummy_there there.node bucket fits (each_found IsKeyedNode l.nodes place there.node keyed there.is) same;
      at = same;
    }

pub there_had : (l : Listing) (bucket place : ℕ) → IsDummyAt l.nodes place bucket → has_dummy l.nodes bucket ≡ true
there_had l bucket place dummy = dummy_had l.nodes place bucket dummy.node dummy.is dummy.kind dummy.at

-- If a cursor for a bucket's dummy finds no node, that dummy is not linked.
pub absent_not_had : (l : Listing) (cursor : Cursor) (bucket : ℕ) → at_of cursor ≡ dummy_at bucket → IsAbsent l cursor → has_dummy l.nodes bucket ≡ false
absent_not_had l cursor bucket sought absent =
    let P : SortKey → Type 0 = λ s. AllByRecursion (λ n. n.at ≢ s) l.nodes in
    no_dummy l.nodes bucket (subst P sought absent.others)

-- The answer when a helper links its dummy node and its cursor fits.
module _ (d : Directory) (l : Listing) (helper bucket : ℕ) (cursor : Cursor) (had : helper_of d helper ≡ Some (Seeking bucket cursor)) (fit : fits l cursor ≡ true) where
  pub answer_present : has_dummy l.nodes bucket ≡ true → link_answer_at d l helper ≡ Ok Present
  answer_present has = rw (had, fit, has) refl

  pub answer_linked : has_dummy l.nodes bucket ≡ false → l.last ≢ 2 ^ 64 - 2 → link_answer_at d l helper ≡ Ok Linked
  answer_linked none room = elim (eqb_tells l.last (2 ^ 64 - 2)) [
    | inl worn ↦ absurd (room worn.1)
    | inr fresh ↦ rw (had, fit, none, fresh.0) refl
  ]

  answer_worn : has_dummy l.nodes bucket ≡ false → l.last ≡ 2 ^ 64 - 2 → link_answer_at d l helper ≡ Err StampsUsedUp
  answer_worn none last = elim (eqb_tells l.last (2 ^ 64 - 2)) [
    | inl worn ↦ rw (had, fit, none, worn.0) refl
    | inr fresh ↦ absurd (fresh.1 last)
  ]

  pub answer_refused : (after : Listing) (refusal : InitRefusal) → has_dummy l.nodes bucket ≡ false → IsUnlinked l after refusal → ◌≢◌ {A = Result InitLink InitRefusal} (Err refusal) (Err NoMemory) → Err refusal ≡ link_answer_at d l helper
  answer_refused after StampsUsedUp none why other = sym (answer_worn none why.1)
  answer_refused after NoMemory none why other = absurd (other refl)
  answer_refused after NoSuchBucket none why other = absurd why
  answer_refused after ParentMissing none why other = absurd why
  answer_refused after NoSuchHelper none why other = absurd why
  answer_refused after HelperOutOfOrder none why other = absurd why

  pub answer_no_memory : (after : Listing) (refusal : InitRefusal) → has_dummy l.nodes bucket ≡ false → IsUnlinked l after refusal → ◌≡◌ {A = Result InitLink InitRefusal} (Err refusal) (Err NoMemory) → link_answer_at d l helper ≡ Ok Linked
  answer_no_memory after NoMemory none why same = answer_linked none why.1
  answer_no_memory after StampsUsedUp none why same = absurd (cc same)
  answer_no_memory after NoSuchBucket none why same = absurd why
  answer_no_memory after ParentMissing none why same = absurd why
  answer_no_memory after NoSuchHelper none why same = absurd why
  answer_no_memory after HelperOutOfOrder none why same = absurd why

-- A refused link changes nothing.
pub unlinked_same : (before after : Listing) (refusal : InitRefusal) → IsUnlinked before after refusal → after ≡ before
unlinked_same before after StampsUsedUp why = why.0
unlinked_same before after NoMemory why = why.0
unlinked_same before after NoSuchBucket why = absurd why
unlinked_same before after ParentMissing why = absurd why
unlinked_same before after NoSuchHelper why = absurd why
unlinked_same before after HelperOutOfOrder why = absurd why
