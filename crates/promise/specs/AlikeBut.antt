-- Records, and dossiers as bytes, that are alike but for some money.
use Rattle.std.specs.Prelude.{◌≡◌, Bool, false, cond, ◌&&◌, List, [], ◌∷◌, ℕ, ◌-◌, ltb, length, get_or}
use Rattle.lists.specs.Lists.{Pairwise}
use Rattle.records.specs.Record.{mark, money_byte}
use Rattle.records.specs.Dossier.{records}
use Rattle.rules.specs.Answer.{IsAccepted}

-- two records as long and alike in every byte, the money of those that a test picks aside
pub record AlikeBut (picks : List ℕ → Bool) (r s : List ℕ) : Type 0 where
  pub long : length r ≡ length s
  pub alike : (i : ℕ) → picks r && money_byte (mark r) i ≡ false → get_or r i 0 ≡ get_or s i 0

-- whether byte i of some records, back to back, lies in the money of one that the test picks
unfoldable pub picked_at : (List ℕ → Bool) → List (List ℕ) → ℕ → Bool
picked_at picks [] i = false
picked_at picks (r ∷ l) i = cond (ltb i (length r)) (picks r && money_byte (mark r) i) (picked_at picks l (i - length r))

-- two dossiers as long and alike in every byte outside that money
pub record BytesBut (picks : List ℕ → Bool) (d e : List ℕ) : Type 0 where
  pub long : length d ≡ length e
  pub alike : (i : ℕ) → picked_at picks (records d) i ≡ false → get_or d i 0 ≡ get_or e i 0

-- of two accepted dossiers that is the same as records alike one by one
pub record RecordByRecord : Type 0 where
  pub only : (picks : List ℕ → Bool) (d e : List ℕ) → IsAccepted d → IsAccepted e → BytesBut picks d e → Pairwise (AlikeBut picks) (records d) (records e)
  pub always : (picks : List ℕ → Bool) (d e : List ℕ) → Pairwise (AlikeBut picks) (records d) (records e) → BytesBut picks d e
