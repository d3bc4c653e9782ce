use Rattle.std.proofs.Common.{[], ◌∷◌, ◌++◌, sym, subst, ◌∙◌}
use Rattle.striped_map.specs.declared.open.Opening.{Opening}
use Rattle.striped_map.specs.Hosts.{IsOpened}
use Rattle.boostmap_c.proofs.striped.first_member.Goals as goal

pub returns-in-Ok-made_member-clause-ok : goal.returns-in-Ok-made_member-clause-ok
returns-in-Ok-made_member-clause-ok c = let made = c.in-Ok-made_member in record {
  kept = c.in-Some.kept;
  keep_is = sym c.keep_of.ensures ∙ c.in-Some.is;
  opening = made.ensures.opening;
  host = c.in-Ok.host;
  hosts = made.ensures.host;
  counts_are = made.ensures.counts;
  opened = subst (λ (o : Opening). IsOpened o c.in-Ok.host (made.member.value.group.waiting.items ++ made.member.value.caller ∷ [])) (sym made.ensures.opening) made.ensures.ok;
}
