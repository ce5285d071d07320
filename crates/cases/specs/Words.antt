-- Words, each with the text that it stands for, and what texts become by them.
use Rattle.std.specs.Prelude.{◌≡◌, ◌≢◌, ◌≤◌, ◌⊎◌, ℕ, List, [], ◌∷◌, ◌++◌, length, codes, ◌==◌, Bool, false, slice_index, if◌then◌else◌}
use Rattle.std.specs.List.{list_any}
use Rattle.std.specs.Str.{bytes_eq}
use Rattle.std.specs.Str.Pattern.{FindsText}
use Rattle.std.specs.Str.Replace.{ReplacesMatches}

-- a text is cut in two where a mark first stands in it
pub record IsCut (mark whole before after : List ℕ) : Type 0 where
  pub parts : whole ≡ before ++ (mark ++ after)
  pub first : (front rest : List ℕ) → whole ≡ front ++ (mark ++ rest) → length before ≤ length front

-- a mark stands nowhere in a text
abbrev pub Lacks : List ℕ → List ℕ → Type 0
Lacks mark whole = (front rest : List ℕ) → whole ≡ front ++ (mark ++ rest) → ⊥

-- a text without the blank that it may begin with
abbrev pub IsTrimmed : List ℕ → List ℕ → Type 0
IsTrimmed rest text = (rest ≡ 32 ∷ text) ⊎ (((more : List ℕ) → rest ≢ 32 ∷ more) × (text ≡ rest))

-- the line is a word, ` =` where it first stands, and the text, maybe after a blank
pub record IsDefinition (whole word text : List ℕ) : Type 0 where
  pub rest : List ℕ
  pub cut : IsCut (codes " =") whole word rest
  pub trimmed : IsTrimmed rest text

-- the word of a line with its text; a line without ` =` is a word itself, which stands for nothing
abbrev pub IsWordOf : List ℕ → List ℕ × List ℕ → Type 0
IsWordOf line word = IsDefinition line word.0 word.1 ⊎ (Lacks (codes " =") line × (word ≡ (line, [])))

-- whether a line gives a word
abbrev pub gives_word : List ℕ → Bool
gives_word line = slice_index line 0 == 60

-- the words of lines, one after another
abbrev pub AreWordsOf : List (List ℕ) → List (List ℕ × List ℕ) → Type 0
AreWordsOf [] [] = Unit {0}
AreWordsOf [] (word ∷ words) = ⊥
AreWordsOf (line ∷ lines) [] = ⊥
AreWordsOf (line ∷ lines) (word ∷ words) = IsWordOf line word × AreWordsOf lines words

-- whether a word is among the words
abbrev pub has_word : List (List ℕ × List ℕ) → List ℕ → Bool
has_word words word = list_any (λ w. bytes_eq w.0 word) words

-- the words, with another text for one of them; as they are where it isn't among them
abbrev pub with_text : List (List ℕ × List ℕ) → List ℕ → List ℕ → List (List ℕ × List ℕ)
with_text [] word text = []
with_text (w ∷ ws) word text = if bytes_eq w.0 word then (w.0, text) ∷ ws else w ∷ with_text ws word text

-- by a line a word gets another text, where it is known; else, or where the line gives no text, all stay as they are
pub data IsSet (words : List (List ℕ × List ℕ)) (line : List ℕ) (known : Bool) (new : List (List ℕ × List ℕ)) : Type 0 where
  defined : (word text : List ℕ) → IsDefinition line word text → known ≡ has_word words word → new ≡ with_text words word text → IsSet words line known new
  formless : Lacks (codes " =") line → known ≡ false → new ≡ words → IsSet words line known new

-- a text with another one put wherever a word stands, from left to right
abbrev pub IsReplaced : List ℕ → List ℕ → List ℕ → List ℕ → Type 0
IsReplaced word to text new = (n : ℕ) × ReplacesMatches FindsText (λ a b. b ≡ a) to n word text new

-- a text with each word replaced, one word after another
abbrev pub IsFilled : List (List ℕ × List ℕ) → List ℕ → List ℕ → Type 0
IsFilled [] text full = full ≡ text
IsFilled (w ∷ ws) text full = (next : List ℕ) × IsReplaced w.0 w.1 text next × IsFilled ws next full
