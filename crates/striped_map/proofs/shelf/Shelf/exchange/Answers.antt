use Rattle.std.proofs.Common.{◌∙◌, ap, arith}
use Rattle.striped_map.specs.Shelves.{Thread}
use Rattle.striped_map.specs.Shelved.{like_of}
use Rattle.striped_map.proofs.Shelving.{sits, grabs, releases}
use Rattle.striped_map.proofs.shelf.Shelf.exchange.Goals as goal

pub load_new_seat-word-requires : goal.load_new_seat-word-requires
load_new_seat-word-requires c = let shelf = c.args.self.now in
    let low = c.if-place-places.false in let count = c.places.ensures in let wide = shelf.sized in (
      omega (arith, low, count, wide),
      sits (like_of shelf) _ _,
    )

pub compare_exchange-found-requires : goal.compare_exchange-found-requires
compare_exchange-found-requires c = let shelf = c.args.self.now in
    let low = c.if-place-places.false in let count = c.places.ensures in let wide = shelf.sized in (
      c.load_new_seat-word.ensures.0,
      omega (arith, low, count, wide),
      grabs (like_of shelf) _ _ _ _ _ c.load_new_seat-word.ensures.2 c.requires.from (omega (arith, low, count)),
    )

pub store-requires : goal.store-requires
store-requires c = let shelf = c.args.self.now in
    let low = c.if-place-places.false in let count = c.places.ensures in let wide = shelf.sized in (
      c.exchange-lay.ensures.0 ∙ c.compare_exchange-found.ensures.0 ∙ c.load_new_seat-word.ensures.0,
      omega (arith, low, count, wide),
      releases (like_of shelf) _ _ _ _ _ c.args.seat _ (ap (λ (m : Thread). m.1) c.exchange-lay.ensures.3) c.requires.seat (omega (arith, low, count)),
    )
