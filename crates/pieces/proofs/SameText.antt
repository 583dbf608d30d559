-- Equality of styles, texts and pieces, as tests.
use lib.Pointwise.{pointwise, bytes_decides}
use Rattle.std.proofs.Common.{◌≡◌, ◌↔◌, ℕ, ◌&&◌, Bool, true, false, nat_eq, List, [], ◌∷◌, map, Option, Some, None, IsTrue, refl, sym, ap, ◌∙◌}
use Rattle.std.specs.Str.{IsUtf8, chars, bytes_eq}
use Rattle.std.specs.Prelude.{encode_utf8_all}
use Rattle.std.proofs.lemmas.Str.{encodes-chars}
use Rattle.std.proofs.lemmas.Bool.{and_parts, and_from, eqb-true, eq-eqb}
use Rattle.decoration.specs.declared.color.Color.{Color}
use Rattle.decoration.specs.declared.style.Style.{Style}
use Rattle.decoration.specs.Colors.{number_of}
use Rattle.decoration.proofs.Colors.{same_number}
use Rattle.pieces.specs.Piece.{PieceView, PiecesView}
use Rattle.pieces.specs.SamePieces.{look, look_of, same_piece, same_pieces}
use Rattle.pieces.specs.Styles.{same_color, same_flag, same_style}

-- two tests that hold of each other are equal
pub both : (a b : Bool) → (a ≡ true → b ≡ true) → (b ≡ true → a ≡ true) → a ≡ b
both true b there back = sym (there refl)
both false true there back = back refl
both false false there back = refl

pub text_same : (a b : List ℕ) → IsUtf8 a → IsUtf8 b → pointwise nat_eq a b ≡ bytes_eq (chars a) (chars b)
text_same a b left right =
    both _ _
    (λ same. (bytes_decides (chars a) (chars b)).1 (ap chars ((bytes_decides a b).0 same)))
    (λ same. (bytes_decides a b).1 (sym (encodes-chars a left) ∙ (ap encode_utf8_all ((bytes_decides (chars a) (chars b)).0 same) ∙ encodes-chars b right)))

same_color-is : (a b : Option Color) → same_color a b ≡ true → a ≡ b
same_color-is None None same = refl
same_color-is (Some a) (Some b) same = ap Some (same_number a b (eqb-true (number_of a) (number_of b) same))
same_color-is None (Some b) same = cc
same_color-is (Some a) None same = cc

same_color-own : (a : Option Color) → same_color a a ≡ true
same_color-own None = refl
same_color-own (Some a) = eq-eqb (number_of a) (number_of a) refl

same_flag-is : (a b : Bool) → same_flag a b ≡ true → a ≡ b
same_flag-is true true same = refl
same_flag-is false false same = refl
same_flag-is true false same = cc
same_flag-is false true same = cc

same_flag-own : (a : Bool) → same_flag a a ≡ true
same_flag-own true = refl
same_flag-own false = refl

pub same_style-is : (a b : Style) → same_style a b ≡ true → a ≡ b
same_style-is a b same =
    let reverse = and_parts _ _ same in
    let underline = and_parts _ _ reverse.0 in
    let bold = and_parts _ _ underline.0 in
    let colors = and_parts _ _ bold.0 in
    λ i. record {
      fg = same_color-is a.fg b.fg colors.0 i;
      bg = same_color-is a.bg b.bg colors.1 i;
      bold = same_flag-is a.bold b.bold bold.1 i;
      underline = same_flag-is a.underline b.underline underline.1 i;
      reverse = same_flag-is a.reverse b.reverse reverse.1 i;
    }

pub same_style-own : (a : Style) → same_style a a ≡ true
same_style-own a =
    and_from _ _ (and_from _ _ (and_from _ _ (and_from _ _ (same_color-own a.fg) (same_color-own a.bg)) (same_flag-own a.bold)) (same_flag-own a.underline)) (same_flag-own a.reverse)

-- the test of styles is their equality
pub style_same : (a b : Style) (result : Bool) → IsTrue result ↔ (a ≡ b) → result ≡ same_style a b
style_same a b result decides =
    both result (same_style a b) (λ same. rw (← decides.0 same) (same_style-own a)) (λ same. decides.1 (same_style-is a b same))

style_test : (a b : Style) → a ≡ b → same_style a b ≡ true
style_test a b e = rw (← e) (same_style-own a)

piece_is : (a b : PieceView) → same_piece a b ≡ true → look a ≡ look b
piece_is a b same =
    let parts = and_parts (same_style a.style b.style) (bytes_eq a.text b.text) same in
    λ i. ((bytes_decides a.text b.text).0 parts.1 i, same_style-is a.style b.style parts.0 i)

piece_test : (a b : PieceView) → look a ≡ look b → same_piece a b ≡ true
piece_test a b e =
    and_from _ _ (style_test a.style b.style (ap (λ (r : List ℕ × Style). r.1) e)) ((bytes_decides a.text b.text).1 (ap (λ (r : List ℕ × Style). r.0) e))

list_is : (ps qs : List PieceView) → pointwise same_piece ps qs ≡ true → map look ps ≡ map look qs
list_is [] [] same = refl
list_is [] (q ∷ qs) same = cc
list_is (p ∷ ps) [] same = cc
list_is (p ∷ ps) (q ∷ qs) same =
    let parts = and_parts (same_piece p q) (pointwise same_piece ps qs) same in
    λ i. piece_is p q parts.0 i ∷ list_is ps qs parts.1 i

list_test : (ps qs : List PieceView) → map look ps ≡ map look qs → pointwise same_piece ps qs ≡ true
list_test [] [] e = refl
list_test [] (q ∷ qs) e = cc
list_test (p ∷ ps) [] e = cc
list_test (p ∷ ps) (q ∷ qs) e =
    let here : look p ≡ look q = cc in
    let more : map look ps ≡ map look qs = cc in
    and_from _ _ (piece_test p q here) (list_test ps qs more)

-- the test holds exactly of pieces that look the same
pub same_pieces-is : (a b : PiecesView) → same_pieces a b ≡ true → look_of a ≡ look_of b
same_pieces-is a b same =
    let parts = and_parts (same_style a.style b.style && nat_eq a.start b.start) (pointwise same_piece a.pieces b.pieces) same in
    let head = and_parts (same_style a.style b.style) (nat_eq a.start b.start) parts.0 in
    λ i. (same_style-is a.style b.style head.0 i, eqb-true a.start b.start head.1 i, list_is a.pieces b.pieces parts.1 i)

same_pieces-test : (a b : PiecesView) → look_of a ≡ look_of b → same_pieces a b ≡ true
same_pieces-test a b e =
    let style : a.style ≡ b.style = ap (λ (r : Style × ℕ × List (List ℕ × Style)). r.0) e in
    let start : a.start ≡ b.start = ap (λ (r : Style × ℕ × List (List ℕ × Style)). r.1) e in
    let list : map look a.pieces ≡ map look b.pieces = ap (λ (r : Style × ℕ × List (List ℕ × Style)). r.2) e in
    and_from _ _ (and_from _ _ (style_test a.style b.style style) (eq-eqb a.start b.start start)) (list_test a.pieces b.pieces list)

pub pieces_same : (a b : PiecesView) (result : Bool) → result ≡ same_pieces a b → IsTrue result ↔ (look_of a ≡ look_of b)
pieces_same a b result is = (λ same. same_pieces-is a b (sym is ∙ same), λ e. is ∙ same_pieces-test a b e)
