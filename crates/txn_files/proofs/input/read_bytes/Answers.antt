use Rattle.std.proofs.Common.{◌-◌, ◌≤◌, arith, length}
use Rattle.std.proofs.lemmas.List.{length-take}
use Rattle.txn_files.specs.Reading.{max_read}
use Rattle.txn_files.proofs.Known.{Consumes-nothing, read_to_end, read_most, read_more, read_within, still_whole}
use Rattle.txn_files.proofs.input.read_bytes.Goals as goal

pub loop-chunk-init : goal.loop-chunk-init
loop-chunk-init g c = record {
  within = rw c.new-bytes.ensures.items (omega arith);
  whole_chunk = omega (arith, c.in_ok-place.ensures);
  taken = rw c.new-bytes.ensures.items (Consumes-nothing (g.R.Read.remaining c.args.input.now));
}

pub returns-then-count-eq0 : goal.returns-then-count-eq0
returns-then-count-eq0 g c =
    let b = c.in-Ok.ensures.bytes in
    read_to_end (g.R.Read.remaining c.args.input.now) (g.R.Read.remaining c.loop-chunk.input) (g.R.Read.remaining c.read.new.self) c.loop-chunk.bytes.items max_read c.loop-chunk.invariant.taken (rw c.if-count-eq0.true at b.0) (b.1 c.if-count-eq0.true (omega (arith, c.read.auto.buf, length-take c.min-room.result c.loop-chunk.chunk, c.min-room.ensures, c.len-in-loop-chunk.ensures, c.len.ensures, c.loop-chunk-test.true, c.loop-chunk.invariant.whole_chunk))) c.loop-chunk.invariant.within

pub loop-chunk-preserved : goal.loop-chunk-preserved
loop-chunk-preserved g c =
    let more = c.in_ok-extend_from_slice.ensures.items in
    let room : c.min-room.result ≤ max_read - length c.loop-chunk.bytes.items = omega (arith, c.min-room.ensures, c.len-in-loop-chunk.ensures) in
    let fits : length c.read.new.buf ≤ c.min-room.result = omega (arith, c.read.auto.buf, length-take c.min-room.result c.loop-chunk.chunk) in
    record {
      within = read_within c.loop-chunk.bytes.items c.read.new.buf _ c.extend_from_slice.new.self.items c.in-Ok.count c.min-room.result max_read c.in-Ok.ensures.bound.0 fits room c.loop-chunk.invariant.within more;
      whole_chunk = still_whole c.read.new.buf c.loop-chunk.chunk c.min-room.result c.read.auto.buf c.loop-chunk.invariant.whole_chunk;
      taken = read_more (g.R.Read.remaining c.args.input.now) (g.R.Read.remaining c.loop-chunk.input) (g.R.Read.remaining c.read.new.self) c.loop-chunk.bytes.items c.read.new.buf _ c.extend_from_slice.new.self.items c.in-Ok.count c.loop-chunk.invariant.taken c.in-Ok.ensures.bytes.0 c.in-Ok.ensures.bound.0 more;
    }

pub returns : goal.returns
returns g c = read_most (g.R.Read.remaining c.args.input.now) (g.R.Read.remaining c.loop-chunk.input) c.loop-chunk.bytes.items max_read c.loop-chunk.invariant.taken c.loop-chunk.invariant.within (omega (arith, c.loop-chunk-test.false))
