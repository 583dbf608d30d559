-- The bytes of a number and of a style, read back.
use Rattle.std.proofs.Common.{◌≡◌, ℕ, ◌+◌, ◌*◌, ◌/◌, ◌%◌, ◌<◌, ◌≤◌, ◌^◌, arith, Bool, true, false, Option, Some, None, List, [], ◌∷◌, ◌++◌, refl, sym, ap, ◌∙◌, append_assoc, max, if◌then◌else◌}
use Rattle.std.specs.Prelude.{codes, ⊤}
use Rattle.std.specs.Int.{is_in_range}
use Rattle.std.specs.Fmt.{decimal, digits}
use Rattle.std.proofs.lemmas.Fmt.{decimal_by_steps_wide}
use Rattle.pieces.specs.Styles.{plain}
use Rattle.decoration.specs.declared.style.Style.{Style}
use Rattle.decoration.specs.declared.color.Color.{Color}
use Rattle.decoration.specs.declared.color.Color.TheVariants.{Black, Red, Green, Yellow, Blue, Magenta, Cyan, White}
use Rattle.decoration.specs.Colors.{number_of}
use Rattle.term_bytes.specs.Frame.{color_code, flag_code, place, start, style_bytes, style_codes}
use Rattle.term_bytes.proofs.FrameText.{color_small}
use Rattle.term_bytes.specs.Reading.{Reading, Terminal, all_coded, at_text, coded, in_sequence, read, step}

read_both : (q : Reading) (xs ys : List ℕ) → read q (xs ++ ys) ≡ read (read q xs) ys
read_both q [] ys = refl
read_both q (x ∷ xs) ys = read_both (step q x) xs ys

-- the characters lead from one reading to another
pub record Reads (q : Reading) (xs : List ℕ) (r : Reading) : Type 0 where
  pub is : read q xs ≡ r

-- one part after another
pub goes : {q r s : Reading} {xs ys : List ℕ} → Reads q xs r → Reads r ys s → Reads q (xs ++ ys) s
goes {q} {r} {s} {xs} {ys} one two = record { is = read_both q xs ys ∙ (ap (λ (q : Reading). read q ys) one.is ∙ two.is) }

digit : (d : ℕ) → d < 10 → is_in_range 48 57 (48 + d) ≡ true
digit d small = grind (arith, small)

digit_step : (before : List ℕ) (t : Terminal) (n d m : ℕ) → d < 10 → m ≡ n * 10 + d → step (in_sequence before n t) (48 + d) ≡ in_sequence before m t
digit_step before t n d m small is = rw (digit d small) (ap (λ (k : ℕ). in_sequence before k t) (omega (arith, is)))

pub reads_number : (before : List ℕ) (t : Terminal) (n : ℕ) → n < 10 ^ 64 → Reads (in_sequence before 0 t) (decimal n) (in_sequence before n t)
reads_number before t =
    decimal_by_steps_wide (λ n ds. Reads (in_sequence before 0 t) ds (in_sequence before n t))
    (λ n small. record { is = digit_step before t 0 n n small (omega arith) })
    (λ n ds big done.
    let last : Reads (in_sequence before (n / 10) t) ((48 + n % 10) ∷ []) (in_sequence before n t) = record { is = digit_step before t (n / 10) (n % 10) n (omega arith) (omega arith) } in
    goes done last)

at_least_1 : (n : ℕ) → 1 ≤ n → max 1 n ≡ n
at_least_1 n some = omega (arith, some)

pub reads_place : (t : Terminal) (r c : ℕ) → 1 ≤ r → 1 ≤ c → r < 10 ^ 64 → c < 10 ^ 64 → Reads (at_text t) (place r c) (at_text (record t { row = r; column = c; content = [] }))
reads_place t r c one first small few =
    let begin : Reads (at_text t) start (in_sequence [] 0 t) = record { is = refl } in
    let middle : Reads (in_sequence [] r t) (codes ";") (in_sequence (r ∷ []) 0 t) = record { is = refl } in
    let end : Reads (in_sequence (r ∷ []) c t) (codes "H") (at_text (record t { row = r; column = c; content = [] })) = record { is = rw (at_least_1 r one, at_least_1 c first) refl } in
    goes (goes (goes (goes begin (reads_number [] t r small)) middle) (reads_number (r ∷ []) t c few)) end

-- numbers, each after a semicolon
abbrev codes_text : List ℕ → List ℕ
codes_text [] = []
codes_text (k ∷ ks) = 59 ∷ decimal k ++ codes_text ks

codes_both : (xs ys : List ℕ) → codes_text (xs ++ ys) ≡ codes_text xs ++ codes_text ys
codes_both [] ys = refl
codes_both (x ∷ xs) ys = ap (λ (cs : List ℕ). 59 ∷ decimal x ++ cs) (codes_both xs ys) ∙ ap (λ (cs : List ℕ). 59 ∷ cs) (sym (append_assoc (decimal x) (codes_text xs) (codes_text ys)))

abbrev AreSmall : List ℕ → Type 0
AreSmall [] = ⊤
AreSmall (k ∷ ks) = (k < 48) × AreSmall ks

small_both : (xs ys : List ℕ) → AreSmall xs → AreSmall ys → AreSmall (xs ++ ys)
small_both [] ys one two = two
small_both (x ∷ xs) ys one two = (one.0, small_both xs ys one.1 two)

reads_codes : (ks before : List ℕ) (n : ℕ) (t : Terminal) → AreSmall ks → read (in_sequence before n t) (codes_text ks ++ codes "m") ≡ at_text (record t { style = all_coded t.style (before ++ n ∷ ks) })
reads_codes [] before n t small = refl
reads_codes (k ∷ ks) before n t small =
    ap (λ (cs : List ℕ). read (in_sequence (before ++ n ∷ []) 0 t) cs) (append_assoc (decimal k) (codes_text ks) (codes "m"))
    ∙ (read_both (in_sequence (before ++ n ∷ []) 0 t) (decimal k) (codes_text ks ++ codes "m")
    ∙ (ap (λ (q : Reading). read q (codes_text ks ++ codes "m")) (reads_number (before ++ n ∷ []) t k (omega (arith, small.0))).is
    ∙ (reads_codes ks (before ++ n ∷ []) k t small.1
    ∙ ap (λ (ns : List ℕ). at_text (record t { style = all_coded t.style ns })) (append_assoc before (n ∷ []) (k ∷ ks)))))

-- the numbers of a style
abbrev flag_number : Bool → ℕ → List ℕ
flag_number wanted k = if wanted then k ∷ [] else []

abbrev color_number : ℕ → Option Color → List ℕ
color_number base None = []
color_number base (Some color) = (base + number_of color) ∷ []

abbrev numbers_of : Style → List ℕ
numbers_of s = flag_number s.bold 1 ++ flag_number s.underline 4 ++ flag_number s.reverse 7 ++ color_number 30 s.fg ++ color_number 40 s.bg

flag_is : (wanted : Bool) (k : ℕ) (code : List ℕ) → code ≡ codes_text (k ∷ []) → flag_code wanted code ≡ codes_text (flag_number wanted k)
flag_is true k code same = same
flag_is false k code same = refl

foreground_is : (color : Option Color) → color_code (codes ";3") color ≡ codes_text (color_number 30 color)
unfolding digits
foreground_is None = refl
foreground_is (Some Black) = refl
foreground_is (Some Red) = refl
foreground_is (Some Green) = refl
foreground_is (Some Yellow) = refl
foreground_is (Some Blue) = refl
foreground_is (Some Magenta) = refl
foreground_is (Some Cyan) = refl
foreground_is (Some White) = refl

background_is : (color : Option Color) → color_code (codes ";4") color ≡ codes_text (color_number 40 color)
unfolding digits
background_is None = refl
background_is (Some Black) = refl
background_is (Some Red) = refl
background_is (Some Green) = refl
background_is (Some Yellow) = refl
background_is (Some Blue) = refl
background_is (Some Magenta) = refl
background_is (Some Cyan) = refl
background_is (Some White) = refl

joined : (a b : List ℕ) (xs ys : List ℕ) → a ≡ codes_text xs → b ≡ codes_text ys → a ++ b ≡ codes_text (xs ++ ys)
joined a b xs ys one two = rw (one, two) (sym (codes_both xs ys))

codes_are : (s : Style) → style_codes s ≡ codes_text (numbers_of s)
unfolding digits
codes_are s =
    joined _ _ _ (color_number 40 s.bg)
    (joined _ _ _ (color_number 30 s.fg)
    (joined _ _ _ (flag_number s.reverse 7)
    (joined _ _ (flag_number s.bold 1) (flag_number s.underline 4) (flag_is s.bold 1 (codes ";1") refl) (flag_is s.underline 4 (codes ";4") refl))
    (flag_is s.reverse 7 (codes ";7") refl))
    (foreground_is s.fg))
    (background_is s.bg)

small_flag : (wanted : Bool) (k : ℕ) → k < 48 → AreSmall (flag_number wanted k)
small_flag true k small = (small, tt)
small_flag false k small = tt

small_color : (base : ℕ) (color : Option Color) → base + 8 ≤ 48 → AreSmall (color_number base color)
small_color base None small = tt
small_color base (Some color) small = (omega (arith, small, color_small color), tt)

small_numbers : (s : Style) → AreSmall (numbers_of s)
small_numbers s =
    small_both _ (color_number 40 s.bg)
    (small_both _ (color_number 30 s.fg)
    (small_both _ (flag_number s.reverse 7)
    (small_both (flag_number s.bold 1) (flag_number s.underline 4) (small_flag s.bold 1 (omega arith)) (small_flag s.underline 4 (omega arith)))
    (small_flag s.reverse 7 (omega arith)))
    (small_color 30 s.fg (omega arith)))
    (small_color 40 s.bg (omega arith))

-- the numbers of a style give the style
abbrev styled : Option Color → Option Color → Bool → Bool → Bool → Style
styled fg bg bold underline reverse = record { fg = fg; bg = bg; bold = bold; underline = underline; reverse = reverse }

record Gives (s : Style) (ks : List ℕ) (u : Style) : Type 0 where
  is : all_coded s ks ≡ u

coded_both : (s : Style) (xs ys : List ℕ) → all_coded s (xs ++ ys) ≡ all_coded (all_coded s xs) ys
coded_both s [] ys = refl
coded_both s (x ∷ xs) ys = coded_both (coded s x) xs ys

gives_both : {s u v : Style} {xs ys : List ℕ} → Gives s xs u → Gives u ys v → Gives s (xs ++ ys) v
gives_both {s} {u} {v} {xs} {ys} one two = record { is = coded_both s xs ys ∙ (ap (λ (s : Style). all_coded s ys) one.is ∙ two.is) }

bold_read : (b : Bool) → Gives plain (flag_number b 1) (styled None None b false false)
bold_read true = record { is = refl }
bold_read false = record { is = refl }

underline_read : (b u : Bool) → Gives (styled None None b false false) (flag_number u 4) (styled None None b u false)
underline_read b true = record { is = refl }
underline_read b false = record { is = refl }

reverse_read : (b u r : Bool) → Gives (styled None None b u false) (flag_number r 7) (styled None None b u r)
reverse_read b u true = record { is = refl }
reverse_read b u false = record { is = refl }

foreground_read : (fg : Option Color) (b u r : Bool) → Gives (styled None None b u r) (color_number 30 fg) (styled fg None b u r)
foreground_read None b u r = record { is = refl }
foreground_read (Some Black) b u r = record { is = refl }
foreground_read (Some Red) b u r = record { is = refl }
foreground_read (Some Green) b u r = record { is = refl }
foreground_read (Some Yellow) b u r = record { is = refl }
foreground_read (Some Blue) b u r = record { is = refl }
foreground_read (Some Magenta) b u r = record { is = refl }
foreground_read (Some Cyan) b u r = record { is = refl }
foreground_read (Some White) b u r = record { is = refl }

background_read : (fg bg : Option Color) (b u r : Bool) → Gives (styled fg None b u r) (color_number 40 bg) (styled fg bg b u r)
background_read fg None b u r = record { is = refl }
background_read fg (Some Black) b u r = record { is = refl }
background_read fg (Some Red) b u r = record { is = refl }
background_read fg (Some Green) b u r = record { is = refl }
background_read fg (Some Yellow) b u r = record { is = refl }
background_read fg (Some Blue) b u r = record { is = refl }
background_read fg (Some Magenta) b u r = record { is = refl }
background_read fg (Some Cyan) b u r = record { is = refl }
background_read fg (Some White) b u r = record { is = refl }

numbers_give : (s : Style) → Gives plain (numbers_of s) s
numbers_give s =
    gives_both (gives_both (gives_both (gives_both (bold_read s.bold) (underline_read s.bold s.underline)) (reverse_read s.bold s.underline s.reverse)) (foreground_read s.fg s.bold s.underline s.reverse)) (background_read s.fg s.bg s.bold s.underline s.reverse)

pub reads_style : (t : Terminal) (s : Style) → Reads (at_text t) (style_bytes s) (at_text (record t { style = s }))
reads_style t s =
    let read_numbers : read (in_sequence [] 0 t) (codes_text (numbers_of s) ++ codes "m") ≡ at_text (record t { style = s }) =
    reads_codes (numbers_of s) [] 0 t (small_numbers s) ∙ ap (λ (s : Style). at_text (record t { style = s })) (numbers_give s).is in
    record { is = ap (λ (cs : List ℕ). read (in_sequence [] 0 t) (cs ++ codes "m")) (codes_are s) ∙ read_numbers }
