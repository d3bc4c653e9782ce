use Rattle.std.proofs.Common.{ℕ, List, Option, None, sym, subst, ◌∙◌, replicate}
use Rattle.atomic_table.specs.Table.{opening}
use Rattle.striped_map.specs.declared.seat.MapSeat.{MapSeat}
use Rattle.striped_map.specs.Shelves.{IsOrderly}
use Rattle.striped_map.proofs.Shelving.{opens}
use Rattle.striped_map.proofs.shelf.Shelf.new.Goals as goal

pub vacant-requires : goal.vacant-requires
vacant-requires c = let like = c.args.like.now in let n = c.args.places in
    subst (λ (ws : List ℕ). IsOrderly like (opening ws (replicate n (let p : Option MapSeat = None in p)) like)) (sym (c.deref.ensures.value ∙ c.in_ok-words.ensures)) (opens like n)
