-- A raise: which dossiers are as another with its money amounts risen.
use Rattle.std.specs.Prelude.{◌≡◌, true, false, cond, List, ℕ, ◌≤◌, length, get_or}
use Rattle.lists.specs.Lists.{Pairwise}
use Rattle.lists.specs.Tests.{among}
use Rattle.records.specs.Table.{Field, field_of}
use Rattle.records.specs.Record.{mark, is_money, money_byte, value}
use Rattle.records.specs.Dossier.{records, money_at}

-- an amount stays, or rises and ends within its limit
pub data Rise (limit a b : ℕ) : Type 0 where
  stays : a ≡ b → Rise limit a b
  rises : a ≤ b → b ≤ limit → Rise limit a b

-- a field's limit is the highest of its range; "where the technology wants 0, the limit is 0"
unfoldable pub limit_of : ℕ → Field → ℕ
limit_of t f = cond (among t f.used_by) f.highest 0

-- "each money amount, read with its sign, whether its record is current or not, stays or rises within its limit", at technology t
abbrev pub Rising : ℕ → List ℕ → List ℕ → Type 0
Rising t r s = (i : ℕ) → is_money (field_of (mark r) i).role ≡ true → Rise (limit_of t (field_of (mark r) i)) (value (mark r) i r) (value (mark r) i s)

-- one dossier is a raise of another, "if both are equally long and alike in every byte outside the money amounts", at technology t
pub record RaiseFor (t : ℕ) (d e : List ℕ) : Type 0 where
  pub long : length d ≡ length e
  pub alike : (i : ℕ) → money_at d i ≡ false → get_or d i 0 ≡ get_or e i 0
  pub rising : Pairwise (Rising t) (records d) (records e)

-- what that comes to for one record: as long, alike outside its money, its money no lower (the law `raised`)
pub record Raised (t : ℕ) (r s : List ℕ) : Type 0 where
  pub long : length r ≡ length s
  pub alike : (i : ℕ) → money_byte (mark r) i ≡ false → get_or r i 0 ≡ get_or s i 0
  pub rising : Rising t r s
