-- What a function that opens a file may return.
use Rattle.std.specs.Prelude.{◌≡◌, ℕ, List, Result, Ok, Err, IsOk}
use Rattle.file_text.specs.Files.{FileFault, NotUtf8, TooLong}
use Rattle.file_text.specs.declared.file_error.FileError.{FileError}
use Rattle.file_text.specs.declared.file_error.FileError.TheVariants as errors

-- the error is the fault of the bytes; out of memory stands only where they have none
abbrev pub Fails : FileError → Result (List ℕ) FileFault → Type 0
Fails errors.NotUtf8 read = read ≡ Err NotUtf8
Fails (errors.TooLong len) read = read ≡ Err (TooLong len)
Fails errors.NoMemory read = IsOk read

-- what a function returned, seen by `see` as a text, is what reading gives, unless out of memory
abbrev pub Gives : {X : Type 0} → (X → List ℕ) → Result X FileError → Result (List ℕ) FileFault → Type 0
Gives see (Ok x) read = read ≡ Ok (see x)
Gives see (Err e) read = Fails e read
