-- Shapes of values as contracts see them: which values a shape holds, and which shapes fit into which.
use Rattle.std.specs.Prelude.{◌≡◌, ℕ, zero, suc, Bool, true, false, not, ◌&&◌, ◌||◌, ℤ, int_le, nat_eq, List, [], ◌∷◌, refl}
use Rattle.std.specs.Coded.{Coded}
use Rattle.std.specs.List.{list_any, list_all}
use Rattle.std.proofs.Common.{sym, ◌∙◌, ap}
use Rattle.std.specs.Cmp.Lexicographic.{pointwise}
use base.Stored.{Gv, gnil, gnum, gcons}
use Rattle.cm_plain.specs.Datum.{Datum, boolean, number, text, list, Data, no_data, datum, code_text, code_number, back_text, back_number, back_text-code, back_number-code}

pub data Form : Type 0 where
  any : Form
  booleans : Form
  numbers : ℤ → ℤ → Form
  texts : Form
  one_of : List (List ℕ) → Form
  lists : Form → Form
  ranges : Form
  layers : Form
  history : Form

-- whether the text is one of the words
abbrev pub has_word : List (List ℕ) → List ℕ → Bool
has_word words cs = list_any (λ word. pointwise nat_eq word cs) words

abbrev mutual
  -- Holds: each datum is of shape any; the three last shapes are of values that are no plain data, so they hold none. A
  -- shape of numbers whose least is more than its greatest holds nothing.
  pub holds : Datum → Form → Bool
  holds d any = true
  holds (boolean b) booleans = true
  holds (number z) (numbers least most) = int_le least z && int_le z most
  holds (text cs) texts = true
  holds (text cs) (one_of words) = has_word words cs
  holds (list ds) (lists f) = hold ds f
  holds d f = false

  -- whether the shape holds each item
  pub hold : Data → Form → Bool
  hold no_data f = true
  hold (datum d ds) f = holds d f && hold ds f

-- whether the shape is one of plain data
abbrev pub is_plain : Form → Bool
is_plain ranges = false
is_plain layers = false
is_plain history = false
is_plain f = true

-- Fits: each value that the first shape holds is known to be of the second one. Numbers fit where the first ones lie among
-- the second ones, so a shape of numbers that holds nothing fits into each shape of numbers, and so for words.
abbrev pub fits : Form → Form → Bool
fits f any = is_plain f
fits booleans booleans = true
fits (numbers a b) (numbers c d) = not (int_le a b) || (int_le c a && int_le b d)
fits texts texts = true
fits (one_of words) texts = true
fits (one_of words) (one_of more) = list_all (has_word more) words
fits (lists f) (lists g) = fits f g
fits ranges ranges = true
fits layers layers = true
fits history history = true
fits f g = false

-- how many lists stand round the innermost shape
abbrev pub nesting : Form → ℕ
nesting any = 0
nesting booleans = 0
nesting (numbers a b) = 0
nesting texts = 0
nesting (one_of words) = 0
nesting (lists f) = suc (nesting f)
nesting ranges = 0
nesting layers = 0
nesting history = 0

abbrev code_words : List (List ℕ) → Gv
code_words [] = gnil
code_words (w ∷ ws) = gcons (code_text w) (code_words ws)

abbrev back_words : Gv → List (List ℕ)
back_words gnil = []
back_words (gnum n) = []
back_words (gcons a b) = back_text a ∷ back_words b

back_words-code : (ws : List (List ℕ)) → back_words (code_words ws) ≡ ws
back_words-code [] = refl
back_words-code (w ∷ ws) = ap (λ x. x ∷ back_words (code_words ws)) (back_text-code w) ∙ ap (λ xs. w ∷ xs) (back_words-code ws)

abbrev code_form : Form → Gv
code_form any = gnil
code_form booleans = gnum 0
code_form texts = gnum 1
code_form ranges = gnum 2
code_form layers = gnum 3
code_form history = gnum 4
code_form (numbers a b) = gcons gnil (gcons (code_number a) (code_number b))
code_form (one_of ws) = gcons (gnum 0) (code_words ws)
code_form (lists f) = gcons (gcons gnil gnil) (code_form f)

abbrev back_pair : Gv → Form
back_pair gnil = any
back_pair (gnum n) = any
back_pair (gcons a b) = numbers (back_number a) (back_number b)

abbrev back_form : Gv → Form
back_form gnil = any
back_form (gnum zero) = booleans
back_form (gnum (suc zero)) = texts
back_form (gnum (suc (suc zero))) = ranges
back_form (gnum (suc (suc (suc zero)))) = layers
back_form (gnum (suc (suc (suc (suc n))))) = history
back_form (gcons gnil p) = back_pair p
back_form (gcons (gnum n) p) = one_of (back_words p)
back_form (gcons (gcons a b) p) = lists (back_form p)

back_form-code : (f : Form) → back_form (code_form f) ≡ f
back_form-code any = refl
back_form-code booleans = refl
back_form-code texts = refl
back_form-code ranges = refl
back_form-code layers = refl
back_form-code history = refl
back_form-code (numbers a b) = ap (λ x. numbers x (back_number (code_number b))) (back_number-code a) ∙ ap (numbers a) (back_number-code b)
back_form-code (one_of ws) = ap one_of (back_words-code ws)
back_form-code (lists f) = ap lists (back_form-code f)

pub code_form-inj : (x y : Form) → code_form x ≡ code_form y → x ≡ y
code_form-inj x y p = sym (back_form-code x) ∙ ap back_form p ∙ back_form-code y

abbrev pub coded_form : Coded Form
coded_form = record { code = code_form; inj = code_form-inj }
