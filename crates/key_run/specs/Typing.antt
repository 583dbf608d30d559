-- What a run over keys shows: the first frame, and then one after each key up to the first Quit.
use Rattle.std.specs.Prelude.{ℕ, ◌+◌, ℤ, pos, Bool, true, false, not, List, [], ◌∷◌}
use Rattle.std.specs.List.{list_any, take_while}
use Rattle.cm_outside.specs.Answering.{Machine}
use Rattle.cm_outside.specs.Times.{Times}
use Rattle.term_keys.specs.Keys.{keys_of}
use Rattle.term_keys.specs.declared.key.Key.{Key}
use Rattle.term_keys.specs.declared.key.Key.TheVariants.{Quit}

abbrev pub is_quit : Key → Bool
is_quit Quit = true
is_quit _ = false

-- Quit is among the keys of these bytes
abbrev pub has_quit : List ℕ → Bool
has_quit bytes = list_any is_quit (keys_of bytes)

-- the keys of these bytes up to the first Quit, which isn't one of them
abbrev pub typed : List ℕ → List Key
typed bytes = take_while (λ key. not (is_quit key)) (keys_of bytes)

-- What answers keys, seen as a machine over plain data: what a key and its time in milliseconds make of the data, what a
-- save within the answer alone makes of them, and the frame that shows them.
pub record KeyMachine (P : Type 0) : Type 0 where
  pub after : Key → ℤ → P → P
  pub saved : Key → ℤ → P → P
  pub frame : P → List ℕ

-- what a frame follows: the beginning, or a key at its time
pub data Event : Type 0 where
  opened : Event
  pressed : Key → ℤ → Event

abbrev pub after_event : {P : Type 0} → KeyMachine P → Event → P → P
after_event m opened p = p
after_event m (pressed key time) p = m.after key time p

abbrev pub saved_event : {P : Type 0} → KeyMachine P → Event → P → P
saved_event m opened p = p
saved_event m (pressed key time) p = m.saved key time p

-- the reply to each event is the frame of the data after it
abbrev pub shown : {P : Type 0} → KeyMachine P → Machine Event P
shown m = record { after = after_event m; reply = λ event p. m.frame (after_event m event p); saved = saved_event m }

-- keys that are pressed, each at the clock's next answer
abbrev pub presses : Times → List Key → List Event
presses times [] = []
presses times (key ∷ keys) = pressed key (pos (times 0)) ∷ presses (λ n. times (n + 1)) keys

-- the beginning, and the keys of these bytes up to the first Quit
abbrev pub events : Times → List ℕ → List Event
events times bytes = opened ∷ presses times (typed bytes)
