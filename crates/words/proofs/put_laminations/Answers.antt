use Prim.Native.Nat.{◌<◌}
use native.Mathlib.Omega.{arith}
use Rattle.arrays.specs.Packed.{in_arrays}
use Rattle.words.proofs.Stores.{first-words, next-words, all-places}
use Rattle.words.proofs.put_laminations.Goals as goal

pub loop-i-init : goal.loop-i-init
loop-i-init c =
    let r = in_arrays c.args.from.now c.args.to.now c.args.cents.now c.args.count in
    first-words c.args.profile r c.args.words.now c.requires.0

-- there are no more laminations than places
pub loop-i-preserved : goal.loop-i-preserved
loop-i-preserved c =
    let r = in_arrays c.args.from.now c.args.to.now c.args.cents.now c.args.count in
    let few : c.loop-i.i < 20 = omega (arith, c.requires.2.few) in
    next-words c.args.profile r c.args.words.now c.loop-i.i few c.requires.0 c.loop-i.invariant

pub returns : goal.returns
returns c =
    let r = in_arrays c.args.from.now c.args.to.now c.args.cents.now c.args.count in
    all-places c.args.profile r c.requires.2 c.args.words.now c.requires.0 c.requires.1 (omega arith) c.loop-i.invariant
