use Rattle.std.specs.HashMap.{get as told_at}
use Rattle.std.proofs.Common.{◌≡◌, Some, cond, take, length-take-le, ◌<◌, ◌≤◌, length, arith, refl, sym, ap, ◌∙◌, subst, not, get_or}
use Rattle.std.proofs.lemmas.Bool.{false≢true}
use Rattle.txn_trace.proofs.Now.{same_is}
use Rattle.order_check.specs.Joined.{SourceIs}
use Rattle.order_check.specs.Choices.{LatestWrite, IsSourcing}
use Rattle.order_check.specs.Tables.{Version, version_eq}
use Rattle.order_check.proofs.Noting.{no_access}
use Rattle.order_check.proofs.Turning.{among_at}
use Rattle.order_check.proofs.Choosing.{all_sourced, same_length, same_more, sources_more, latest_more}
use Rattle.order_check.proofs.choice.choose_sources.Goals as goal
use Rattle.order_check.proofs.choice.choose_sources.Goals.{in-Beginning, in-Written, then-ne+in_ok-insert, else-ne}

pub returns-in-Nobody : goal.returns-in-Nobody
returns-in-Nobody c =
    let below : c.loop-access.access-index < length c.args.accesses.now = omega arith in
    let n = subst (IsSourcing c.args.accesses.now (get_or c.args.accesses.now c.loop-access.access-index no_access)) c.in-Nobody.is c.in_ok-found.ensures.source in
    record { needs = record { by = get_or c.args.accesses.now c.loop-access.access-index no_access; is_among = among_at c.args.accesses.now c.loop-access.access-index no_access below; txn_is = refl; key_is = refl; need_is = refl }; some = n.0; none = n.1 }

pub loop-access-preserved : goal.loop-access-preserved
loop-access-preserved c =
    let all = c.args.accesses.now in
    let x = get_or c.args.accesses.now c.loop-access.access-index no_access in
    let below : c.loop-access.access-index < length c.args.accesses.now = omega arith in
    let index_is : c.len-index.result ≡ c.loop-access.access-index = omega (arith, c.len-index.ensures, c.loop-access.sourced.ok.0, same_length (take c.loop-access.access-index all) c.loop-access.sourced.items c.loop-access.invariant.chosen.same, length-take-le c.loop-access.access-index all (omega arith)) in
    let gives : SourceIs all x c.match-found.source = elim c.match-found.branch [
      | in-Beginning w ↦ subst (SourceIs all x) (sym w.source-is) (subst (IsSourcing all x) w.in-Beginning.is c.in_ok-found.ensures.source)
      | in-Written w ↦ subst (SourceIs all x) (sym w.source-is) (subst (IsSourcing all x) w.in-Written.is c.in_ok-found.ensures.source)
    ] in
    record {
      chosen = record {
        same = same_more all c.loop-access.sourced.items c.push.new.self.items c.loop-access.access-index c.with_source.result c.match-found.source below c.loop-access.invariant.chosen.same c.with_source.ensures c.in_ok-push.ensures.items;
        sources = sources_more all c.loop-access.sourced.items c.push.new.self.items x c.with_source.result c.match-found.source c.loop-access.invariant.chosen.sources c.with_source.ensures gives c.in_ok-push.ensures.items;
        writes = elim c.if-ne.branch [
          | then-ne+in_ok-insert w ↦
              subst (λ m. LatestWrite all m) (sym w.latest-is)
              (latest_more all c.loop-access.access-index c.loop-access.latest w.insert.new.self below (λ same. false≢true (sym (ap not (same_is x.need x.left same)) ∙ sym c.ne.ensures ∙ w.if-ne.true))
              (subst (λ n. (q : Version) → told_at version_eq w.insert.new.self q ≡ cond (version_eq (x.key, x.left) q) (Some n) (told_at version_eq c.loop-access.latest q)) index_is w.in_ok-insert.ensures.updates.0) c.loop-access.invariant.chosen.writes)
          | else-ne w ↦ subst (λ m. LatestWrite all m) (sym w.latest-is) c.loop-access.invariant.chosen.writes
        ];
      };
      told = c.in_ok-found.ensures.told;
    }

pub returns : goal.returns
returns c =
    let end : length c.args.accesses.now ≤ c.loop-access.access-index = omega arith in
    all_sourced c.args.accesses.now c.loop-access.sourced.items c.loop-access.access-index end c.loop-access.invariant.chosen.same c.loop-access.invariant.chosen.sources
