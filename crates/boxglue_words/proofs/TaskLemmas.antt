-- The tasks that command lines ask for.
use Rattle.std.proofs.Common.{◌≡◌, ◌==◌, ◌∙◌, ◌<◌, ◌≤◌, ◌^◌, [], ◌∷◌, List, ℕ, true, false, Option, Some, None, Result, Ok, Err, IfErr, refl, sym, ap, ap₂, subst, inl, inr, arith, codes, get_or}
use Rattle.std.specs.Prelude.{option_map, is_some, unwrap_or, Box}
use Rattle.std.specs.Box.{box_value}
use Rattle.std.specs.Str.Parse.{IsNumeral, digits_value, without_leading_plus}
use Rattle.clap.specs.Matches.{has_subcommand, matched_of, one_text, raw_values, subcommand_name_of}
use Rattle.clap.specs.Words.{Row, Text, fault_of, first_of, is_simple, is_simple_and_free, subcommand_of, subcommand_rows_of}
use Rattle.clap.specs.Kinds.{HasKind, Kinds}
use Rattle.clap.specs.declared.error.Error.{Error}
use Rattle.clap.specs.Values.{kind_of}
use Rattle.clap.specs.declared.error.kind.ErrorKind.TheVariants.{DisplayVersion, OutOfMemory}
use Rattle.clap.specs.declared.parser.matches.ArgMatches.{ArgMatches}
use Rattle.clap.specs.declared.parser.matches.ArgMatches.TheViews.{out-ArgMatches, out-SubCommand}
use Rattle.clap.specs.declared.parser.matches.Found.{Found}
use Rattle.clap.specs.declared.parser.matches.SubCommand.{SubCommand}
use Rattle.clap.specs.Simple.{subcommand_rows}
use Rattle.clap.specs.Walk.{rows_of as rows_in}
use Rattle.clap.proofs.OnLiterals.{clap_on_literals}
use Rattle.clap.proofs.WalkLemmas.{one_text-rows, raw_values-rows}
use Rattle.boxglue_words.specs.declared.fonts.WordFault.{WordFault}
use Rattle.boxglue_words.specs.declared.fonts.WordFault.TheVariants.{Line, Memory, NotPair, NameTwice}
use Rattle.boxglue_words.specs.CommandLine.{boxglue}
use Rattle.boxglue_words.specs.Pairs.{IsFaulty, IsFirstFault}
use Rattle.raster_core.specs.PaintOptions.{PaintOptionsView}
use Rattle.boxglue_words.specs.declared.task.Task.{Task}
use Rattle.boxglue_words.specs.declared.task.Task.TheVariants.{Version}
use Rattle.boxglue_words.proofs.VersionLemmas.{alone_fault, has_version, only_version}
use Rattle.boxglue_words.specs.Private.Steps.{IsFileFault, IsLine}
use Rattle.boxglue_words.specs.Tasks.{Asks, AsksBy, IsNumber, IsRefused, IsRefusedBy, IsRequest, AreOptions, IsTask, IsTaskOf, Request, fonts_of}
use Rattle.boxglue_words.specs.Tasks.{font_words, holds_session, lists, names_fonts, nothing, paints, typesets, version}

-- A faulty word NAME=TFM of a subcommand whose file is given.
pub faulty_fonts : (id : Text) (rows : List Row) (path : Text) (fault : WordFault) → first_of id rows ≡ Some path
    → IsFaulty (font_words rows) fault → IsFileFault id rows fault
faulty_fonts id rows path Memory given faulty = tt
faulty_fonts id rows path (Line text) given faulty = absurd faulty.faulty
faulty_fonts id rows path (NotPair word) given faulty = (path, given, faulty)
faulty_fonts id rows path (NameTwice name) given faulty = (path, given, faulty)

-- Without its file a subcommand is no line.
pub file_missing : (id : Text) (rows : List Row) (fault : WordFault) → IsLine fault → first_of id rows ≡ None → IsFileFault id rows fault
file_missing id rows Memory h lacks = tt
file_missing id rows (Line text) h lacks = lacks
file_missing id rows (NotPair word) h lacks = absurd h
file_missing id rows (NameTwice name) h lacks = absurd h

-- Nothing is asked for.
pub refused_line : (asked : Request → Type 0) (fault : WordFault) → IsLine fault → ((request : Request) → asked request → ⊥) → IsRefusedBy asked fault
refused_line asked Memory h none = tt
refused_line asked (Line text) h none = none
refused_line asked (NotPair word) h none = absurd h
refused_line asked (NameTwice name) h none = absurd h

-- Without its path a subcommand asks for nothing.
pub no_typeset : (rows : List Row) → first_of (codes "OUT") rows ≡ None → (request : Request) → AsksBy (codes "typeset") rows request → ⊥
no_typeset rows lacks version h = h
no_typeset rows lacks nothing h = h
no_typeset rows lacks (typesets out fonts) h = absurd (cc (lacks, h.1))
no_typeset rows lacks (holds_session out fonts) h = absurd (cc h.0)
no_typeset rows lacks (lists dvi fonts) h = absurd (cc h.0)
no_typeset rows lacks (names_fonts dvi) h = absurd (cc h.0)
no_typeset rows lacks (paints options dvi fonts) h = absurd (cc h.0)

pub no_session : (rows : List Row) → first_of (codes "OUT") rows ≡ None → (request : Request) → AsksBy (codes "session") rows request → ⊥
no_session rows lacks version h = h
no_session rows lacks nothing h = h
no_session rows lacks (typesets out fonts) h = absurd (cc h.0)
no_session rows lacks (holds_session out fonts) h = absurd (cc (lacks, h.1))
no_session rows lacks (lists dvi fonts) h = absurd (cc h.0)
no_session rows lacks (names_fonts dvi) h = absurd (cc h.0)
no_session rows lacks (paints options dvi fonts) h = absurd (cc h.0)

pub no_list : (rows : List Row) → first_of (codes "DVI") rows ≡ None → (request : Request) → AsksBy (codes "list") rows request → ⊥
no_list rows lacks version h = h
no_list rows lacks nothing h = h
no_list rows lacks (typesets out fonts) h = absurd (cc h.0)
no_list rows lacks (holds_session out fonts) h = absurd (cc h.0)
no_list rows lacks (lists dvi fonts) h = absurd (cc (lacks, h.1))
no_list rows lacks (names_fonts dvi) h = absurd (cc h.0)
no_list rows lacks (paints options dvi fonts) h = absurd (cc h.0)

pub no_fonts_named : (rows : List Row) → first_of (codes "DVI") rows ≡ None → (request : Request) → AsksBy (codes "fonts") rows request → ⊥
no_fonts_named rows lacks version h = h
no_fonts_named rows lacks nothing h = h
no_fonts_named rows lacks (typesets out fonts) h = absurd (cc h.0)
no_fonts_named rows lacks (holds_session out fonts) h = absurd (cc h.0)
no_fonts_named rows lacks (lists dvi fonts) h = absurd (cc h.0)
no_fonts_named rows lacks (names_fonts dvi) h = absurd (cc (lacks, h.1))
no_fonts_named rows lacks (paints options dvi fonts) h = absurd (cc h.0)

pub no_painting : (rows : List Row) → first_of (codes "DVI") rows ≡ None → (request : Request) → AsksBy (codes "paint") rows request → ⊥
no_painting rows lacks version h = h
no_painting rows lacks nothing h = h
no_painting rows lacks (typesets out fonts) h = absurd (cc h.0)
no_painting rows lacks (holds_session out fonts) h = absurd (cc h.0)
no_painting rows lacks (lists dvi fonts) h = absurd (cc h.0)
no_painting rows lacks (names_fonts dvi) h = absurd (cc h.0)
no_painting rows lacks (paints options dvi fonts) h = absurd (cc (lacks, h.2))

-- A subcommand with a file and words NAME=TFM is refused for just these.
pub refused_file : (asked : Request → Type 0) (id : Text) (rows : List Row) (to : Text → Request)
    → ((path : Text) → first_of id rows ≡ Some path → asked (to path)) → ((path : Text) → fonts_of (to path) ≡ font_words rows)
    → (first_of id rows ≡ None → (request : Request) → asked request → ⊥)
    → (fault : WordFault) → IsFileFault id rows fault → IsRefusedBy asked fault
refused_file asked id rows to asks same none Memory h = tt
refused_file asked id rows to asks same none (Line text) h = none h
refused_file asked id rows to asks same none (NotPair word) h =
    (to h.0, asks h.0 h.1, subst (λ words. IsFirstFault words (NotPair word)) (sym (same h.0)) h.2)
refused_file asked id rows to asks same none (NameTwice name) h =
    (to h.0, asks h.0 h.1, subst (λ words. IsFirstFault words (NameTwice name)) (sym (same h.0)) h.2)

paint_is_not_fonts : codes "paint" ≡ codes "fonts" → ⊥
paint_is_not_fonts is = not_both (ap (λ (text : List ℕ). get_or text 0 0 == 112) is)
  where
    not_both : true ≡ false → ⊥
    not_both same = cc

-- Without its numbers `paint` asks for nothing either.
pub no_options : (rows : List Row) → ((options : PaintOptionsView) → AreOptions rows options → ⊥) → (request : Request)
    → AsksBy (codes "paint") rows request → ⊥
no_options rows lacks version h = h
no_options rows lacks nothing h = h
no_options rows lacks (typesets out fonts) h = absurd (cc h.0)
no_options rows lacks (holds_session out fonts) h = absurd (cc h.0)
no_options rows lacks (lists dvi fonts) h = absurd (cc h.0)
no_options rows lacks (names_fonts dvi) h = paint_is_not_fonts h.0
no_options rows lacks (paints options dvi fonts) h = lacks options h.1

-- The words NAME=TFM are the values of their argument.
pub font_words-values : (f : Found) → unwrap_or (option_map raw_values (matched_of f (codes "NAME=TFM"))) [] ≡ font_words (rows_in f)
font_words-values f = ap (λ o. unwrap_or o []) (raw_values-rows f (codes "NAME=TFM"))

-- A text that is read as a number of 32 bits.
abbrev pub IsRead : Text → Type 0
IsRead text = IsNumeral 10 (without_leading_plus text) × (digits_value 10 (without_leading_plus text) < 2 ^ 32)

-- An option whose text is not read has no number.
pub no_number : (f : Found) (id : Text) (most : ℕ) → ((t : List ℕ) → one_text f id ≡ Some t → IsRead t → ⊥)
    → most < 2 ^ 32 → (number : ℕ) → IsNumber most (rows_in f) id number → ⊥
no_number f id most value fits number h =
    let small : digits_value 10 (without_leading_plus h.text) < 2 ^ 32 = omega (arith, h.value, h.most_is) in
    value h.text (one_text-rows f id ∙ h.given) (h.digits, small)

-- The number of an option is the one that is read.
pub same_number : (f : Found) (id : Text) (most n : ℕ)
    → ((t : List ℕ) → one_text f id ≡ Some t → IsRead t × (n ≡ digits_value 10 (without_leading_plus t)))
    → (number : ℕ) → IsNumber most (rows_in f) id number → number ≡ n
same_number f id most n value number h = h.value ∙ sym (value h.text (one_text-rows f id ∙ h.given)).1

-- A number that is read, from 1 to a greatest one.
pub number_read : (f : Found) (id : Text) (most n : ℕ) → (one_text f id ≡ None → ◌≡◌ {A = Option ℕ} (Some n) None)
    → ((t : List ℕ) → one_text f id ≡ Some t → IsRead t × (n ≡ digits_value 10 (without_leading_plus t)))
    → 1 ≤ n → n ≤ most → IsNumber most (rows_in f) id n
number_read f id most n none value least greatest = go (one_text f id) refl
  where
    go : (o : Option Text) → one_text f id ≡ o → IsNumber most (rows_in f) id n
    go None e = absurd (cc (none e))
    go (Some t) e = record {
      text = t;
      given = sym (one_text-rows f id) ∙ e;
      digits = (value t e).0.0;
      value = (value t e).1;
      least = least;
      most_is = greatest;
    }

-- No subcommand was found.
pub none_met : (m : ArgMatches) → false ≡ has_subcommand m → subcommand_rows_of m ≡ None
none_met m h = go (out-ArgMatches m).subcommand h
  where
    go : {Z : Type 0} (o : Option (Box SubCommand Z)) → false ≡ is_some o → subcommand_rows o ≡ None
    go None e = refl
    go (Some b) e = absurd (cc e)

-- A subcommand that was found, by its name and its rows.
pub some_met : (m : ArgMatches) (name : Text) (rows : List Row) → Some name ≡ subcommand_name_of m
    → Some rows ≡ option_map (λ p. p.1) (subcommand_rows_of m) → subcommand_rows_of m ≡ Some (name, rows)
some_met m name rows named found = go (out-ArgMatches m).subcommand named found
  where
    go : {Z : Type 0} (o : Option (Box SubCommand Z)) → Some name ≡ option_map (λ b. (out-SubCommand (box_value b)).name.now) o
        → Some rows ≡ option_map (λ p. p.1) (subcommand_rows o) → subcommand_rows o ≡ Some (name, rows)
    go None e h = absurd (cc e)
    go (Some b) e h = sym (ap₂ (λ n r. Some (n, r)) (ap (λ o. unwrap_or o name) e) (ap (λ o. unwrap_or o rows) h))

-- The command line of boxglue is one whose matches clap's definitions give.
pub boxglue_is_simple : is_simple_and_free boxglue ≡ true
unfolding clap_on_literals
boxglue_is_simple = refl

pub boxglue_has_matches : is_simple boxglue ≡ true
unfolding clap_on_literals
boxglue_has_matches = refl

-- Matches do not ask for the version.
none_asked : (met : Option (Text × List Row)) → Asks met version → ⊥
none_asked None h = h
none_asked (Some met) h = h

-- The words ask for what their accepted matches ask for, and conversely.
words_ask : (m : ArgMatches) (words : List Text) → fault_of boxglue words ≡ [] → subcommand_rows_of m ≡ subcommand_of boxglue words
    → (request : Request) → Asks (subcommand_rows_of m) request → IsRequest words request
words_ask m words accepted same version h = absurd (none_asked (subcommand_rows_of m) h)
words_ask m words accepted same nothing h = record { accepted = accepted; asked = subst (λ o. Asks o nothing) same h }
words_ask m words accepted same (typesets out fonts) h = record { accepted = accepted; asked = subst (λ o. Asks o (typesets out fonts)) same h }
words_ask m words accepted same (holds_session out fonts) h = record { accepted = accepted; asked = subst (λ o. Asks o (holds_session out fonts)) same h }
words_ask m words accepted same (lists dvi fonts) h = record { accepted = accepted; asked = subst (λ o. Asks o (lists dvi fonts)) same h }
words_ask m words accepted same (names_fonts dvi) h = record { accepted = accepted; asked = subst (λ o. Asks o (names_fonts dvi)) same h }
words_ask m words accepted same (paints options dvi fonts) h =
    record { accepted = accepted; asked = subst (λ o. Asks o (paints options dvi fonts)) same h }

matches_ask : (m : ArgMatches) (words : List Text) → fault_of boxglue words ≡ [] → subcommand_rows_of m ≡ subcommand_of boxglue words
    → (request : Request) → IsRequest words request → Asks (subcommand_rows_of m) request
matches_ask m words accepted same version h = absurd (cc (h, accepted))
matches_ask m words accepted same nothing h = subst (λ o. Asks o nothing) (sym same) h.asked
matches_ask m words accepted same (typesets out fonts) h = subst (λ o. Asks o (typesets out fonts)) (sym same) h.asked
matches_ask m words accepted same (holds_session out fonts) h = subst (λ o. Asks o (holds_session out fonts)) (sym same) h.asked
matches_ask m words accepted same (lists dvi fonts) h = subst (λ o. Asks o (lists dvi fonts)) (sym same) h.asked
matches_ask m words accepted same (names_fonts dvi) h = subst (λ o. Asks o (names_fonts dvi)) (sym same) h.asked
matches_ask m words accepted same (paints options dvi fonts) h = subst (λ o. Asks o (paints options dvi fonts)) (sym same) h.asked

pub task_of : (m : ArgMatches) (words : List Text) (task : Task) → fault_of boxglue words ≡ [] → subcommand_rows_of m ≡ subcommand_of boxglue words
    → ((request : Request) × Asks (subcommand_rows_of m) request × IsTaskOf request task) → IsTask words task
task_of m words task accepted same h = (h.0, words_ask m words accepted same h.0 h.1, h.2)

pub refused_of : (m : ArgMatches) (words : List Text) (fault : WordFault) → fault_of boxglue words ≡ []
    → subcommand_rows_of m ≡ subcommand_of boxglue words → IsRefusedBy (Asks (subcommand_rows_of m)) fault → IsRefused words fault
refused_of m words Memory accepted same h = tt
refused_of m words (Line text) accepted same h = λ request asked. h request (matches_ask m words accepted same request asked)
refused_of m words (NotPair word) accepted same h = (h.0, words_ask m words accepted same h.0 h.1, h.2)
refused_of m words (NameTwice name) accepted same h = (h.0, words_ask m words accepted same h.0 h.1, h.2)

-- A fault other than out of memory is one of these kinds.
pub has_fault : (kinds : Kinds) (e : Error) → HasKind kinds e → (kind_of e ≡ OutOfMemory → ⊥) → kinds ≡ [] → ⊥
has_fault [] e h other none = elim h [ inl memory ↦ other memory | inr bad ↦ bad ]
has_fault (k ∷ kinds) e h other none = absurd (cc none)

-- An error whose kind is the version answers words that ask for it.
pub version_asked : (words : List Text) (e : Error) → HasKind (fault_of boxglue words) e → kind_of e ≡ DisplayVersion → IsTask words Version
version_asked words e h kind = (version, alone_fault boxglue words (has_version (fault_of boxglue words) e h kind), tt)

-- Words that clap refuses, except with the version, are no command line.
no_request : (words : List Text) (e : Error) → HasKind (fault_of boxglue words) e → (kind_of e ≡ OutOfMemory → ⊥) → (kind_of e ≡ DisplayVersion → ⊥)
    → (request : Request) → IsRequest words request → ⊥
no_request words e h silent other version asked = other (only_version (fault_of boxglue words) e h silent asked)
no_request words e h silent other nothing asked = has_fault (fault_of boxglue words) e h silent asked.accepted
no_request words e h silent other (typesets out fonts) asked = has_fault (fault_of boxglue words) e h silent asked.accepted
no_request words e h silent other (holds_session out fonts) asked = has_fault (fault_of boxglue words) e h silent asked.accepted
no_request words e h silent other (lists dvi fonts) asked = has_fault (fault_of boxglue words) e h silent asked.accepted
no_request words e h silent other (names_fonts dvi) asked = has_fault (fault_of boxglue words) e h silent asked.accepted
no_request words e h silent other (paints options dvi fonts) asked = has_fault (fault_of boxglue words) e h silent asked.accepted

pub line_refused : (words : List Text) (e : Error) (fault : WordFault) → HasKind (fault_of boxglue words) e → IsLine fault
    → (kind_of e ≡ OutOfMemory → fault ≡ Memory) → (kind_of e ≡ DisplayVersion → ⊥) → IsRefused words fault
line_refused words e Memory h line silent other = tt
line_refused words e (Line text) h line silent other = no_request words e h (λ memory. absurd (cc (silent memory))) other
line_refused words e (NotPair word) h line silent other = absurd line
line_refused words e (NameTwice name) h line silent other = absurd line

-- The same for a result.
pub error_refused : {T : Type 0} (words : List Text) (e : Error) (r : Result T WordFault) → HasKind (fault_of boxglue words) e → IfErr r IsLine
    → IfErr r (λ fault. kind_of e ≡ OutOfMemory → fault ≡ Memory) → IfErr r (λ fault. kind_of e ≡ DisplayVersion → ⊥) → IfErr r (IsRefused words)
error_refused words e (Ok task) h line silent other = tt
error_refused words e (Err fault) h line silent other = line_refused words e fault h line silent other
