-- A read fills the buffer after what stands there, with the bytes that came next.
use Rattle.std.proofs.Common.{sym, subst, arith, rules}
use Rattle.std.specs.Io.KnownBytes.{Consumes}
use Rattle.streams.proofs.ReadLaws.{consumes_on, take-put_mid_add}
use Rattle.streams.proofs.read_full.Goals as goal

pub loop-done-preserved : goal.loop-done-preserved
loop-done-preserved g c =
    let read = c.in-Ok.ensures in
    record {
      within = search rules;
      taken = subst (Consumes _ _) (sym (take-put_mid_add c.loop-done.done _ c.in-Ok.n c.loop-done.buffer c.read.new.buf (omega arith) read.bound.0))
          (consumes_on _ _ _ _ _ c.loop-done.invariant.taken read.bytes.0);
    }
