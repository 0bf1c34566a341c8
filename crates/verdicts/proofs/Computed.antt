-- Every definition up to this layer, to compute with.
use Prim.Native.Nat.{ℕ, ◌+◌}
use Rattle.formulas.proofs.Computed.{computed as below}
use Rattle.verdicts.specs.Refusals.{level_refusal, condition_refusal, price_before, pair_holds, malformed, above_capacity, length_refusal, offer_refusal}
use Rattle.verdicts.specs.Refusals.{price_refusal}
use Rattle.verdicts.specs.Test.{limit, fails, fails_under, failing, quantity, price_at, before, overlap, offer_from, price_test}
use Rattle.verdicts.specs.Verdict.{settle, numbers, offer_verdict, price_verdict, on_offer, on_price}

-- how many definitions there are to open
unfoldable pub computed : ℕ
unfolding below level_refusal condition_refusal price_before pair_holds malformed above_capacity length_refusal offer_refusal price_refusal limit fails fails_under failing quantity price_at before overlap offer_from price_test settle numbers offer_verdict price_verdict on_offer on_price
computed = below + 25
