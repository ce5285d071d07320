-- What the lines of a file of cases say, and whether that is so.
use Rattle.std.specs.Prelude.{◌≡◌, ◌≢◌, ◌↔◌, ◌⊎◌, ◌<◌, ℕ, ◌==◌, List, [], ◌∷◌, ◌++◌, Bool, true, false, if◌then◌else◌, IsTrue, codes, slice_index}
use Rattle.std.specs.Borrow.{Bor}
use Rattle.std.specs.List.{after_first, before_first}
use Rattle.std.specs.Str.Parse.{digits_value, IsNumeral, without_leading_plus}
use Rattle.std.specs.Str.Pattern.{FindsText}
use Rattle.std.specs.Str.Replace.{ReplacesFirstMatches}
use Rattle.plan_doc.specs.Document.{doc_of}
use Rattle.cases.specs.declared.cases.Line.{Line}
use Rattle.cases.specs.declared.cases.Line.TheVariants.{Given, Right, Wrong}
use Rattle.cases.specs.Endings.{Ended, HasText, rows_text}
use Rattle.cases.specs.Lines.{line_of}
use Rattle.cases.specs.Readings.{word_of}
use Rattle.cases.specs.Words.{has_word, IsCut, IsFilled, IsSet, IsTrimmed, Lacks, with_text}

-- whether a byte is a blank
abbrev pub is_blank : ℕ → Bool
is_blank c = c == 32

-- the text up to the first blank
abbrev pub first_word : List ℕ → List ℕ
first_word text = before_first is_blank text

-- what follows the first blank; nothing where there is none
abbrev pub after_word : List ℕ → List ℕ
after_word text = after_first is_blank text

-- the text is a number below 256, in decimal
pub record IsStatus (text : List ℕ) (status : ℕ) : Type 0 where
  pub numeral : IsNumeral 10 (without_leading_plus text)
  pub is : digits_value 10 (without_leading_plus text) ≡ status
  pub small : status < 256

-- the command was tried on the document that stands for `<document>`: it ended as it may, and that is right exactly where it has the status, and the text as its line
pub record IsTried (words : List (List ℕ × List ℕ)) (command answer : List ℕ) (right : Bool) : Type 0 where
  pub status : ℕ
  pub document : List ℕ
  pub line : List ℕ
  pub read : IsStatus (first_word answer) status
  pub given : IsFilled words (codes "<document>") document
  pub wanted : IsFilled words (after_word answer) line
  pub ended : Ended command document (λ code bytes. IsTrue right ↔ ((code ≡ status) × (bytes ≡ line_of line)))

-- `STATUS TEXT` of a command: it was tried; or no status stands there, and that isn't right
abbrev pub Judges : List (List ℕ × List ℕ) → List ℕ → List ℕ → Bool → Type 0
Judges words command answer right = IsTried words command answer right ⊎ (((status : ℕ) → IsStatus (first_word answer) status → ⊥) × (right ≡ false))

-- the words under these flags
abbrev pub under : List (List ℕ × List ℕ) → List ℕ → List (List ℕ × List ℕ)
under words flags = with_text words (codes "<flags>") flags

-- the words after what is tried without pruning and with it
abbrev pub after_both : List (List ℕ × List ℕ) → List (List ℕ × List ℕ)
after_both words = under (under words (codes "0")) (codes "1")

-- under these flags something is found right or not; where flags have no word, it isn't right
abbrev pub Under : List (List ℕ × List ℕ) → List ℕ → (List (List ℕ × List ℕ) → Bool → Type 0) → Bool → Type 0
Under words flags P right = ((has_word words (codes "<flags>") ≡ true) × P (under words flags) right) ⊎ ((has_word words (codes "<flags>") ≡ false) × (right ≡ false))

-- the answer that refuses a plan: `KIND NODE PLACE` behind its status, as it is written
unfoldable pub refusal : List ℕ → List ℕ
refusal told = codes "5 {\"error\":{\"kind\":\"" ++ (first_word told ++ (codes "\",\"node\":" ++ (first_word (after_word told) ++ (codes ",\"place\":" ++ (after_word (after_word told) ++ codes "}}")))))

-- `fault KIND NODE PLACE`: right where both commands refuse the document so, `optimize` whether pruning is asked or not
pub record AreRefusals (words : List (List ℕ × List ℕ)) (told : List ℕ) (right : Bool) : Type 0 where
  pub checked : Bool
  pub unpruned : Bool
  pub pruned : Bool
  pub of_check : Judges words (codes "check") (refusal told) checked
  pub of_unpruned : Under words (codes "0") (λ now. Judges now (codes "optimize") (refusal told)) unpruned
  pub of_pruned : Under (under words (codes "0")) (codes "1") (λ now. Judges now (codes "optimize") (refusal told)) pruned
  pub is : IsTrue right ↔ (IsTrue checked × IsTrue unpruned × IsTrue pruned)

-- `optimize` was tried on the document that stands for `<document>`: that is right exactly where it ended well, and wrote rows of one column `r`, of this type and with these values
pub record Makes (words : List (List ℕ × List ℕ)) (dtype values : List ℕ) (right : Bool) : Type 0 where
  pub document : List ℕ
  pub given : IsFilled words (codes "<document>") document
  pub ended : Ended (codes "optimize") document (λ code bytes. IsTrue right ↔ ((code ≡ 0) × HasText bytes (rows_text dtype values)))

-- the words, where those for expressions and for a type stand for these
abbrev pub making : List (List ℕ × List ℕ) → List ℕ → List ℕ → List (List ℕ × List ℕ)
making words exprs dtype = with_text (with_text words (codes "<exprs>") exprs) (codes "<type>") dtype

-- `TYPE VALUES` and expressions: right where both words are known, and with these expressions and this type `optimize` makes the values, whether pruning is asked or not
pub record AreValues (words : List (List ℕ × List ℕ)) (made exprs : List ℕ) (right : Bool) : Type 0 where
  pub unpruned : Bool
  pub pruned : Bool
  pub of_unpruned : Under (making words exprs (first_word made)) (codes "0") (λ now. Makes now (first_word made) (after_word made)) unpruned
  pub of_pruned : Under (under (making words exprs (first_word made)) (codes "0")) (codes "1") (λ now. Makes now (first_word made) (after_word made)) pruned
  pub is : IsTrue right ↔ ((has_word words (codes "<exprs>") ≡ true) × (has_word words (codes "<type>") ≡ true) × IsTrue unpruned × IsTrue pruned)

-- `value TYPE VALUES = EXPRS`, cut at ` = `: whether it is right, and what texts the words have after it
pub data IsValued (words : List (List ℕ × List ℕ)) (told : List ℕ) (right : Bool) (new : List (List ℕ × List ℕ)) : Type 0 where
  made : (made exprs : List ℕ) → IsCut (codes " = ") told made exprs → AreValues words made exprs right → new ≡ after_both (making words exprs (first_word made)) → IsValued words told right new
  formless : Lacks (codes " = ") told → right ≡ false → new ≡ words → IsValued words told right new

-- an old piece, and what follows the arrow: right where what stands for `<given>`, with another piece where the old one first stands, is another text, which reads so
pub record IsVariant (words : List (List ℕ × List ℕ)) (wanted old rest : List ℕ) (right : Bool) : Type 0 where
  pub new : List ℕ
  pub given : List ℕ
  pub document : List ℕ
  pub trimmed : IsTrimmed rest new
  pub filled : IsFilled words (codes "<given>") given
  pub replaced : ReplacesFirstMatches FindsText (λ a b. b ≡ a) new 1 old given document
  pub is : IsTrue right ↔ ((document ≢ given) × (wanted ≡ word_of (doc_of document)))

-- `OLD => NEW`, cut at ` =>`: whether it is right
pub data IsVaried (words : List (List ℕ × List ℕ)) (wanted pieces : List ℕ) (right : Bool) : Type 0 where
  pieces : (old rest : List ℕ) → IsCut (codes " =>") pieces old rest → IsVariant words wanted old rest right → IsVaried words wanted pieces right
  formless : Lacks (codes " =>") pieces → right ≡ false → IsVaried words wanted pieces right

-- whether a line of a verb is right, and what texts the words have after it
pub data IsJudged (words : List (List ℕ × List ℕ)) (verb rest : List ℕ) (right : Bool) (new : List (List ℕ × List ℕ)) : Type 0 where
  optimized : verb ≡ codes "is" → Judges words (codes "optimize") rest right → new ≡ words → IsJudged words verb rest right new
  checked : verb ≡ codes "check" → Judges words (codes "check") rest right → new ≡ words → IsJudged words verb rest right new
  refused : verb ≡ codes "fault" → AreRefusals words rest right → new ≡ after_both words → IsJudged words verb rest right new
  valued : verb ≡ codes "value" → IsValued words rest right new → IsJudged words verb rest right new
  read : (verb ≡ codes "reads") ⊎ ((verb ≡ codes "form") ⊎ (verb ≡ codes "json")) → IsVaried words verb rest right → new ≡ words → IsJudged words verb rest right new
  unknown : verb ≢ codes "is" → verb ≢ codes "check" → verb ≢ codes "fault" → verb ≢ codes "value" → verb ≢ codes "reads" → verb ≢ codes "form" → verb ≢ codes "json" → right ≡ false → new ≡ words → IsJudged words verb rest right new

-- what a line is found to be, and what texts the words have after it: an empty line or a comment is no case; nor is one that gives a text to a word, where the word is known; each other line is a case, right or wrong
pub data IsRead (words : List (List ℕ × List ℕ)) (line : List ℕ) (found : Line) (new : List (List ℕ × List ℕ)) : Type 0 where
  nothing : (line ≡ []) ⊎ (slice_index line 0 ≡ 35) → found ≡ Given → new ≡ words → IsRead words line found new
  word : slice_index line 0 ≡ 60 → (known : Bool) → IsSet words line known new → found ≡ (if known then Given else Wrong) → IsRead words line found new
  tried : line ≢ [] → slice_index line 0 ≢ 35 → slice_index line 0 ≢ 60 → (right : Bool) → IsJudged words (first_word line) (after_word line) right new → found ≡ (if right then Right else Wrong) → IsRead words line found new

-- what each of the lines is found to be, by the texts that those before it leave
abbrev pub AreRead : List (List ℕ × List ℕ) → List (Bor (List ℕ)) → List Line → List (List ℕ × List ℕ) → Type 0
AreRead words [] [] new = new ≡ words
AreRead words [] (found ∷ more) new = ⊥
AreRead words (line ∷ lines) [] new = ⊥
AreRead words (line ∷ lines) (found ∷ more) new = (next : List (List ℕ × List ℕ)) × IsRead words line.now found next × AreRead next lines more new

-- whether a line is no comment or the like: a case, or wrong in form
abbrev pub is_case : Line → Bool
is_case Given = false
is_case Right = true
is_case Wrong = true
