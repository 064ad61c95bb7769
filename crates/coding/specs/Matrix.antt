-- 01, "Words and matrices": a generator matrix is a list of rows; message place i selects row i.
use Rattle.std.specs.Prelude.{◌≡◌, ◌↔◌, List, [], ◌∷◌, Bool, ℕ, zero, suc, ◌/◌, ◌%◌, ◌^◌, ◌<◌, eqb, ltb, length, get_or, take}
use Rattle.coding.specs.Lists.{first}
use Rattle.coding.specs.Word.{◌⊕◌}

-- the row where the digit is 1, and the zero word where it is 0
abbrev pub sel : ℕ → ℕ → ℕ
sel zero r = 0
sel (suc c) r = r

-- the codeword of the message u: the sum of the rows that its places select
abbrev pub encode : List ℕ → ℕ → ℕ
encode [] u = 0
encode (r ∷ rows) u = sel (u % 2) r ⊕ encode rows (u / 2)

-- w is the codeword of one of the 2 ^ k messages; in other words, w is in the span of the rows
abbrev pub Codeword : List ℕ → ℕ → Type 0
Codeword rows w = (u : ℕ) × (u < 2 ^ length rows) × (w ≡ encode rows u)

-- two matrices of one code: they have the same codewords
abbrev pub SameCode : List ℕ → List ℕ → Type 0
SameCode rows others = (w : ℕ) → Codeword rows w ↔ Codeword others w

-- u is the message of the codeword w, and the only one
pub record IsMessage (rows : List ℕ) (w u : ℕ) : Type 0 where
  pub below : u < 2 ^ length rows
  pub codeword : encode rows u ≡ w
  pub only : (v : ℕ) → v < 2 ^ length rows → encode rows v ≡ w → v ≡ u

-- the first message whose codeword is w, or 2 ^ k where there is none
unfoldable pub message_of : List ℕ → ℕ → ℕ
message_of rows w = first (λ u. eqb (encode rows u) w) (2 ^ length rows)

-- some message has the codeword w, as a test
abbrev pub is_codeword : List ℕ → ℕ → Bool
is_codeword rows w = ltb (message_of rows w) (2 ^ length rows)

-- every row is a word of n places
abbrev pub Inside : ℕ → List ℕ → Type 0
Inside n rows = (i : ℕ) → i < length rows → get_or rows i 0 < 2 ^ n

-- only the zero message has the zero codeword
abbrev pub Independent : List ℕ → Type 0
Independent rows = (u : ℕ) → u < 2 ^ length rows → encode rows u ≡ 0 → u ≡ 0

-- row i is a sum of earlier rows; a zero row is the empty sum
abbrev pub Depends : List ℕ → ℕ → Type 0
Depends rows i = Codeword (take i rows) (get_or rows i 0)

-- the same as a test
abbrev pub depends_at : List ℕ → ℕ → Bool
depends_at rows i = is_codeword (take i rows) (get_or rows i 0)
