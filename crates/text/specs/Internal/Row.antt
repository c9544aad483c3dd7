-- Numbers as text.
use Rattle.std.specs.Prelude.{ℕ, List, [], ◌∷◌, ◌++◌}
use Rattle.std.specs.Fmt.{decimal}

-- in decimal digits, with 32, a space, between each two
abbrev pub row_text : List ℕ → List ℕ
row_text [] = []
row_text (n ∷ []) = decimal n
row_text (n ∷ m ∷ more) = decimal n ++ 32 ∷ row_text (m ∷ more)
