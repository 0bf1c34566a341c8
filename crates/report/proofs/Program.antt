-- What the program prints: it has a room that is enough for every input, and hangs on the first 60,005 bytes alone.
use mathlib.Core.Path.{◌≡◌, refl, sym, ap, ◌∙◌, subst}
use mathlib.Core.Bool.{Bool}
use mathlib.Core.List.{List, map}
use Prim.Native.Nat.{ℕ, zero, suc, ◌+◌, ◌-◌, ◌<◌, ◌≤◌}
use native.Mathlib.Omega.{arith}
use borrow.Author.Tests.{lt-ltb, le-ltb, ltb-true, ltb-false}
use lib.Dec.{ltb, eqb}
use lib.ListN.{length, take, drop, length-drop, length-map}
use lib.Seq.{take_all, length-take-le}
use Rattle.std.specs.Prelude.{Ok, Err}
use Rattle.lists.specs.Tests.{count_to}
use Rattle.lists.proofs.Tests.{split}
use Rattle.fields.specs.Numbers.{number}
use Rattle.records.specs.declared.Refusal.{Refusal}
use Rattle.records.specs.Answers.{Accepted, Answer, or_else, refuse_if, is_accepted, Refused}
use Rattle.records.proofs.Answers.{or_else-none}
use Rattle.records.specs.Table.{thermal, nuclear, storage, hydro, HP}
use Rattle.index.proofs.Turn.{tail}
use Rattle.station.specs.InForce.{Query, query}
use Rattle.station.specs.Parameters.{Parameters, Amounts, technology}
use Rattle.rules.proofs.Draws.{overlong}
use Rattle.rules.specs.Curve.{points}
use Rattle.formulas.specs.Levels.{parameters_at, amounts_at, fuelled, Line, profile, retired, laminations, lines_of, lines, levels, query_answer, shown}
use Rattle.formulas.proofs.Hours.{hour-refused}
use Rattle.text.specs.Text.{refusal_line}
use Rattle.text.proofs.Decimal.{decimal-within}
use Rattle.text.proofs.Lengths.{refusal-length}
use Rattle.text.proofs.Over.{Wrote}
use Rattle.layout.specs.Written.{Written, Bytes}
use Rattle.layout.specs.Report.{report, buffer_with, written, report_answer, buffer_after, longest_report, printed, program_query, prints}
use Rattle.lines.proofs.Fits.{long-enough}
use Rattle.report.specs.Print.{print_answer, buffer_printed}
use Rattle.report.proofs.Buffer.{Told}
use Rattle.layout.proofs.Lines.{either, text-within}

-- ---- room

count-within : (n : ℕ) (f : ℕ → Bool) → count_to n f ≤ n
unfolding count_to
count-within zero f = omega arith
count-within (suc n) f = split (f (suc n)) (λ e. rw e (omega (arith, count-within n f))) (λ e. rw e (omega (arith, count-within n f)))

laminations-length : (s : Parameters) (m : Amounts) (p i n : ℕ) (others : List Line) → length (laminations s m p i n others) ≡ n + length others
unfolding laminations
laminations-length s m p i zero others = omega arith
laminations-length s m p i (suc n) others = omega (arith, laminations-length s m p (i + 1) n others)

laminations-within : (s : Parameters) (m : Amounts) (p n : ℕ) (others : List Line) → n ≤ 20 → length others ≤ 3 → length (laminations s m p 1 n others) ≤ 23
laminations-within s m p n others h k = omega (arith, laminations-length s m p 1 n others)

-- at most 20 laminations and three other levels
lines-count : (s : Parameters) (m : Amounts) (p : ℕ) → length (lines_of s m p) ≤ 23
unfolding lines_of points
lines-count s m p =
    either 23 (eqb (technology s) thermal) _ _ (laminations-within s m p (points s - 1) _ (omega (arith, count-within 21 (s.has HP))) (omega arith))
    (either 23 (eqb (technology s) nuclear) _ _ (omega arith)
    (either 23 (eqb (technology s) storage) _ _ (omega arith) (either 23 (eqb (technology s) hydro) _ _ (omega arith) (omega arith))))

levels-count : (d : List ℕ) (q : Query) → length (levels d q) ≤ 23
unfolding levels lines
levels-count d q =
    let s = parameters_at d q in
    either 23 (fuelled s q.hour) _ _ (lines-count s (amounts_at d q) (profile s q.hour)) (omega arith)

-- every report fits the bytes that hold every one
pub report-fits : (d : List ℕ) (q : Query) → length (report d q) ≤ longest_report
unfolding report
report-fits d q =
    omega (
      arith,
      text-within (profile (parameters_at d q) q.hour) (map shown (levels d q)) (retired (parameters_at d q) (profile (parameters_at d q) q.hour)),
      length-map (levels d q) shown,
      levels-count d q,
    )

printed-fits : (a : Answer) (text : List ℕ) → length text ≤ longest_report → length (printed a text) ≤ longest_report
unfolding printed
printed-fits (Ok x) text h = h
printed-fits (Err r) text h = omega (arith, refusal-length r.number r.place, decimal-within r.number, decimal-within r.place)

-- and so has all that the program prints
pub prints-fits : (i : List ℕ) → length (prints i) ≤ longest_report
unfolding prints
prints-fits i = printed-fits _ _ (report-fits (drop 4 i) (program_query i))

-- ---- the input

no-hour : (n : ℕ) (a : Answer) → n < 4 → or_else (refuse_if (ltb n 4) 16 0) a ≡ Refused 16 0
unfolding or_else refuse_if
no-hour n a h = rw (lt-ltb n 4 h)

hour-there : (n : ℕ) (a : Answer) → 4 ≤ n → or_else (refuse_if (ltb n 4) 16 0) a ≡ a
unfolding or_else refuse_if
hour-there n a h = rw (le-ltb n 4 h)

pub prints-short : (i : List ℕ) → length i < 4 → prints i ≡ refusal_line 16 0
unfolding prints printed
prints-short i h = ap (λ (a : Answer). printed a (report (drop 4 i) (program_query i))) (no-hour (length i) (query_answer (drop 4 i) (program_query i)) h)

-- an hour is there: the dossier's refusal, or its report
prints-answer : (i : List ℕ) (a : Answer) → 4 ≤ length i → query_answer (drop 4 i) (program_query i) ≡ a → prints i ≡ printed a (report (drop 4 i) (program_query i))
unfolding prints
prints-answer i a h e = ap (λ (a : Answer). printed a (report (drop 4 i) (program_query i))) (hour-there (length i) (query_answer (drop 4 i) (program_query i)) h ∙ e)

prints-too-long : (i : List ℕ) → 60004 < length i → prints i ≡ refusal_line 13 0
unfolding printed
prints-too-long i h =
    let k : 60000 < length (drop 4 i) = simp length-drop (omega arith) in
    prints-answer i (Refused 13 0) (omega arith) (hour-refused (drop 4 i) (program_query i) (omega arith, omega arith) (overlong (drop 4 i) k))

-- 4 hour bytes, 60,000 of a dossier, and one more to tell that it is too long: what comes after them changes nothing
pub prints-cut : (i : List ℕ) → prints (take 60005 i) ≡ prints i
prints-cut i =
    split (ltb 60005 (length i)) (λ e. long (ltb-true 60005 (length i) e)) (λ e. ap prints (take_all 60005 i (ltb-false 60005 (length i) e)))
  where
    long : 60005 < length i → prints (take 60005 i) ≡ prints i
    long h =
        let n : length (take 60005 i) ≡ 60005 = length-take-le 60005 i (omega arith) in
        prints-too-long (take 60005 i) (omega arith) ∙ sym (prints-too-long i (omega arith))

-- ---- the function that prints: a report in a buffer where every report fits

with-room : (d : List ℕ) (q : Query) (e : List ℕ) → longest_report ≤ length e → report_answer d q (length e) ≡ query_answer d q
unfolding report_answer
with-room d q e k = rw (long-enough (report d q) (length e) (omega (arith, report-fits d q))) (or_else-none (query_answer d q))

-- the report that the function calls sees the input after the hour as a part
pub after-hour : (i e : List ℕ) {h : ℕ} {w : Written} {b : List ℕ} → h ≡ number 0 4 i → Told (take (length i - 4) (drop 4 i)) (query h 1) e w b
    → Told (drop 4 i) (program_query i) e w b
after-hour i e {h} {w} {b} f t =
    subst (λ (d : List ℕ). Told d (program_query i) e w b) (tail i 4)
    (subst (λ (h : ℕ). Told (take (length i - 4) (drop 4 i)) (query h 1) e w b) f t)

module _ (i e : List ℕ) (room : longest_report ≤ length e) (four : 4 ≤ length i) where
  -- what is told stands on the dossier's answer alone
  told-answer : {w : Written} {b : List ℕ} (a : Answer) → query_answer (drop 4 i) (program_query i) ≡ a → Told (drop 4 i) (program_query i) e w b
      → (w ≡ written a (length (report (drop 4 i) (program_query i)))) × (b ≡ buffer_with a (report (drop 4 i) (program_query i)) e)
  unfolding buffer_after
  told-answer a p t = rw (with-room (drop 4 i) (program_query i) e room, p) at t

  -- bytes that are told are all that is printed
  pub print-report : (n : ℕ) {b : List ℕ} → Told (drop 4 i) (program_query i) e (Bytes n) b → Wrote (prints i) e n b
  unfolding printed buffer_with written is_accepted
  print-report n {b} t = go (query_answer (drop 4 i) (program_query i)) refl
    where
      go : (a : Answer) → query_answer (drop 4 i) (program_query i) ≡ a → Wrote (prints i) e n b
      go (Ok x) p =
          let l : n ≡ length (report (drop 4 i) (program_query i)) = cc (told-answer Accepted p t).0 in
          rw (prints-answer i Accepted four p) (l, (told-answer Accepted p t).1)
      go (Err r) p = let z : ◌≡◌ {A = ℕ} 0 1 = cc (told-answer (Err r) p t).0 in absurd (omega arith)

  -- a refusal that is told is what is printed, and the buffer is as it was
  pub print-refusal : (r : Refusal) {b : List ℕ} → Told (drop 4 i) (program_query i) e (Err r) b → (prints i ≡ refusal_line r.number r.place) × (b ≡ e)
  unfolding printed buffer_with written is_accepted
  print-refusal r {b} t = go (query_answer (drop 4 i) (program_query i)) refl
    where
      go : (a : Answer) → query_answer (drop 4 i) (program_query i) ≡ a → (prints i ≡ refusal_line r.number r.place) × (b ≡ e)
      go (Ok x) p = let z : ◌≡◌ {A = ℕ} 0 1 = cc (told-answer Accepted p t).0 in absurd (omega arith)
      go (Err s) p =
          let f : r ≡ s = cc (told-answer (Err s) p t).0 in
          rw f (prints-answer i (Err s) four p, (told-answer (Err s) p t).1)

-- what the function tells its caller, with the buffer that it leaves: all is printed where every text fits, and else nothing
pub told_text : (i e : List ℕ) {n : ℕ} {b : List ℕ} → longest_report ≤ length e → Wrote (prints i) e n b → (Bytes n ≡ print_answer i e) × (b ≡ buffer_printed i e)
told_text i e h w = rw (le-ltb (length e) longest_report h) (ap Bytes w.0, w.1)

pub told-scant : (i e : List ℕ) → length e < longest_report → (Refused 15 0 ≡ print_answer i e) × (e ≡ buffer_printed i e)
told-scant i e h = rw (lt-ltb (length e) longest_report h) (refl, refl)
