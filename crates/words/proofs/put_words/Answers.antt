use mathlib.Core.Path.{sym}
use native.Mathlib.Omega.{arith}
use borrow.Author.Rules.{rules}
use lib.Seq.{length-take-le}
use Rattle.arrays.specs.Packed.{hour_of}
use Rattle.words.proofs.Stores.{cleared, cleared-front, placed, last-words}
use Rattle.words.proofs.put_words.Goals as goal

-- `words::put_words` meets its contract: the last four words stand behind the laminations, which stand where all was cleared.

pub slice_bounds-fill-end-2 : goal.slice_bounds-fill-end-2
slice_bounds-fill-end-2 c = sym (length-take-le 62 c.args.words.now (omega arith))

pub put_laminations-requires : goal.put_laminations-requires
put_laminations-requires c =
    let e = c.args.words.now in
    let w = cleared 62 e (omega arith) (c.fill.ensures.after (λ y h. search rules)) in
    (search rules, cleared-front 62 _ w, c.requires.1)

pub returns : goal.returns
returns c =
    let r = hour_of c.args.lv c.args.from.now c.args.to.now c.args.cents.now in
    let e = c.args.words.now in
    let w = cleared 62 e (omega arith) (c.fill.ensures.after (λ y h. search rules)) in
    last-words r e c.requires.0 c.held_bits.ensures (placed r e w c.put_laminations.ensures)
