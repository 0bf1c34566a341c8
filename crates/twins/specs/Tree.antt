-- A tree of ids in two arrays. An id is a record's kind, key and issue as one number. Each has a node; its way to it begins at a root, by a number mixed
-- of the id, and goes on by the id's bits: each node has two links.
use Rattle.std.specs.Prelude.{◌≡◌, Bool, true, false, List, ℕ, zero, suc, ◌+◌, ◌*◌, ◌/◌, ◌%◌, ◌≤◌, ◌<◌, length, get_or, set, replicate}
use Rattle.records.specs.MarkShapes.{shortest}

-- the upper and the lower half of an id, mixed
abbrev pub mixed : ℕ → ℕ
mixed x = (x % 4294967296 * 2654435769 + x / 4294967296 * 1540483477) % 4294967296

-- which of n roots the way of an id begins at
unfoldable pub root : ℕ → ℕ → ℕ
root n x = mixed x * n / 4294967296

-- what is left of an id without its lowest i bits
unfoldable pub halves : ℕ → ℕ → ℕ
halves x zero = x
halves x (suc i) = halves x i / 2

-- the link at which the way of an id stands after i nodes
unfoldable pub place : ℕ → List ℕ → ℕ → ℕ → ℕ
place n l x zero = root n x
place n l x (suc i) = n + 2 * get_or l (place n l x i) 0 + halves x i % 2

-- the node to which that link leads, 0 for none
abbrev pub node : ℕ → List ℕ → ℕ → ℕ → ℕ
node n l x i = get_or l (place n l x i) 0

-- the first m nodes of the way of an id are there, and none has the id
abbrev pub Open : ℕ → List ℕ → List ℕ → ℕ → ℕ → Type 0
Open n l ids x m = (i : ℕ) → i < m → (0 < node n l x i) × (get_or ids (node n l x i) 0 ≡ x → ⊥)

-- there is room for a node more, and links lead on, to nodes that are there
pub record Shape (n : ℕ) (l ids : List ℕ) (count : ℕ) : Type 0 where
  pub some : 0 < n
  pub few : n ≤ 65536
  pub links : length l ≡ n + 2 * length ids
  pub narrow : length ids ≤ 65535
  pub room : count + 1 < length ids
  pub small : (a : ℕ) → get_or l a 0 ≤ count
  pub up : (a : ℕ) → 0 < get_or l a 0 → a < n + 2 * get_or l a 0

-- no node is there yet, and there is room for the records of so many bytes
pub record Fresh (n : ℕ) (l : List ℕ) (nodes bytes : ℕ) : Type 0 where
  pub some : 0 < n
  pub few : n ≤ 65536
  pub none : l ≡ replicate (n + 2 * nodes) 0
  pub narrow : nodes ≤ 65535
  pub room : bytes + shortest < shortest * nodes

-- the way of an id ends at a node that has it, or at a gap, where a node is set for it
pub data Entered (n : ℕ) (l ids : List ℕ) (count x : ℕ) (r : Bool) (l' ids' : List ℕ) : Type 0 where
  seen : r ≡ true → (m : ℕ) → 0 < node n l x m → get_or ids (node n l x m) 0 ≡ x → Entered n l ids count x r l' ids'
  new : r ≡ false → (m : ℕ) → Open n l ids x m → node n l x m ≡ 0 → l' ≡ set l (place n l x m) (count + 1) → ids' ≡ set ids (count + 1) x
      → Entered n l ids count x r l' ids'
