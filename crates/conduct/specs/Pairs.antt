-- A refusal in the shape that code takes: over the numbers that were read. The law `pair-test` ties it to its definition.
use Rattle.std.specs.Prelude.{Bool, ◌&&◌, ℕ, leb, ltb}

-- as `pair_holds`, of the quantity and price before a pair and its own
abbrev pub pair_test : ℕ → ℕ → ℕ → ℕ → Bool
pair_test low last high price = ltb low high && leb 2147283648 price && leb price 2147683648 && leb last price
