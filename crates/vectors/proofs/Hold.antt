-- The cases hold, each by computation. Written by tools/vectors.
use mathlib.Core.Path.{refl}
use Rattle.layout.proofs.Computed.{computed}
use Rattle.vectors.specs.Cases as cases

line26 : cases.Line26
unfolding computed
line26 = refl

line29 : cases.Line29
unfolding computed
line29 = refl

line32 : cases.Line32
unfolding computed
line32 = refl

line34 : cases.Line34
unfolding computed
line34 = refl

line35 : cases.Line35
unfolding computed
line35 = refl

line43 : cases.Line43
unfolding computed
line43 = refl

line70 : cases.Line70
unfolding computed
line70 = refl

line102 : cases.Line102
unfolding computed
line102 = refl

line216 : cases.Line216
unfolding computed
line216 = refl

line217 : cases.Line217
unfolding computed
line217 = refl

line269 : cases.Line269
unfolding computed
line269 = refl

line278 : cases.Line278
unfolding computed
line278 = refl

line296 : cases.Line296
unfolding computed
line296 = refl

line328 : cases.Line328
unfolding computed
line328 = refl

line331 : cases.Line331
unfolding computed
line331 = refl

line332 : cases.Line332
unfolding computed
line332 = refl

line352 : cases.Line352
unfolding computed
line352 = refl

line443 : cases.Line443
unfolding computed
line443 = refl

line460 : cases.Line460
unfolding computed
line460 = refl

line516 : cases.Line516
unfolding computed
line516 = refl

line529 : cases.Line529
unfolding computed
line529 = refl

line531 : cases.Line531
unfolding computed
line531 = refl

line559 : cases.Line559
unfolding computed
line559 = refl

line564 : cases.Line564
unfolding computed
line564 = refl

line579 : cases.Line579
unfolding computed
line579 = refl

line580 : cases.Line580
unfolding computed
line580 = refl

line603 : cases.Line603
unfolding computed
line603 = refl

line604 : cases.Line604
unfolding computed
line604 = refl

line608 : cases.Line608
unfolding computed
line608 = refl

line632 : cases.Line632
unfolding computed
line632 = refl

line645 : cases.Line645
unfolding computed
line645 = refl

line648 : cases.Line648
unfolding computed
line648 = refl

line649 : cases.Line649
unfolding computed
line649 = refl

line669 : cases.Line669
unfolding computed
line669 = refl

line729 : cases.Line729
unfolding computed
line729 = refl

line826 : cases.Line826
unfolding computed
line826 = refl

line875 : cases.Line875
unfolding computed
line875 = refl

line894 : cases.Line894
unfolding computed
line894 = refl

line916 : cases.Line916
unfolding computed
line916 = refl

line975 : cases.Line975
unfolding computed
line975 = refl

line977 : cases.Line977
unfolding computed
line977 = refl

line978 : cases.Line978
unfolding computed
line978 = refl

line1020 : cases.Line1020
unfolding computed
line1020 = refl

line1022 : cases.Line1022
unfolding computed
line1022 = refl

line1033 : cases.Line1033
unfolding computed
line1033 = refl

line1062 : cases.Line1062
unfolding computed
line1062 = refl

line1089 : cases.Line1089
unfolding computed
line1089 = refl

line1123 : cases.Line1123
unfolding computed
line1123 = refl

line1137 : cases.Line1137
unfolding computed
line1137 = refl

line1181 : cases.Line1181
unfolding computed
line1181 = refl

week2 : cases.Week2
unfolding computed
week2 = (refl, refl, refl)

week17 : cases.Week17
unfolding computed
week17 = (refl, refl, refl)

week102 : cases.Week102
unfolding computed
week102 = refl

week132 : cases.Week132
unfolding computed
week132 = (refl, refl, refl)
