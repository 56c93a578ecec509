-- If the version is among the kinds that words may fail with, it is the only one.
use Rattle.std.proofs.Common.{◌≡◌, ◌+◌, ◌==◌, ◌&&◌, ◌||◌, ℕ, Bool, cond, codes, true, false, not, zero, suc, sym, ap, List, [], ◌∷◌, drop, length, Option, Some, None, inl, inr}
use Rattle.std.specs.Prelude.{encode_utf8, find, is_some, min, nat_lt, slice_get}
use Rattle.std.specs.List.{list_any}
use Rattle.std.specs.Option.{option_map_or}
use Rattle.std.specs.Str.{bytes_eq, chars}
use Rattle.clap.specs.Lexer.{long_of, short_of}
use Rattle.clap.specs.Values.{kind_of, refused_kind}
use Rattle.clap.specs.ValueTests.{accepts}
use Rattle.clap.specs.Matches.{count_text}
use Rattle.clap.specs.Facts.{explicit_source, parser_of_value, unwrap_or_range}
use Rattle.clap.specs.Takes.{is_given}
use Rattle.clap.specs.Walk.{Held, Names, Row, Rule, Step, Text, Waiting, Walk, action_of, answers_to, arg_by_id, arg_by_index, arg_by_long, arg_by_short, attached_value, count_of, finished, has_row, is_empty, is_pending, most_values, nothing_held, reacted, settled, subcommand_met, takes_several, takes_values, value, values_or_missing, walk, walk_from, walked, with_default, word_met}
use Rattle.clap.specs.Walk as walks
use Rattle.clap.specs.Simple.{App, Shape, argument_words, built, entered, label_of, names_of}
use Rattle.clap.specs.Kinds.{HasKind, IsAmong, Kinds, check_kinds, or_else, range_kinds, request_kinds, value_kinds, values_kinds}
use Rattle.clap.specs.Faults.{action_fault, built_fault, bundle_fault, bundle_step_fault, check_fault, count_fault, default_fault, defaults_fault, entered_fault, fault_of, flag_word_fault, flags_fault, given_default_fault, level_fault, long_fault, option_fault, other_fault, positional_fault, react_fault, repeat_fault, set_fault, settle_fault, short_fault, step_fault, stray_fault, turn_fault, use_fault, values_fault, walk_fault, word_fault}
use Rattle.clap.specs.declared.builder.action.ArgAction.{ArgAction}
use Rattle.clap.specs.declared.builder.action.ArgAction.TheVariants as action
use Rattle.clap.specs.declared.builder.value_parser.ValueParser.{ValueParser}
use Rattle.clap.specs.declared.error.Error.{Error}
use Rattle.clap.specs.declared.error.kind.ErrorKind.{ErrorKind}
use Rattle.clap.specs.declared.error.kind.ErrorKind.TheVariants as kind
use Rattle.clap.specs.declared.error.kind.ErrorKind.TheVariants.{DisplayVersion, OutOfMemory}

-- The version is among the kinds only alone.
abbrev Alone : Kinds → Type 0
Alone kinds = IsAmong DisplayVersion kinds → kinds ≡ DisplayVersion ∷ []

alone_none : Alone []
alone_none h = absurd h

alone_one : (k : ErrorKind) → Alone (k ∷ [])
alone_one k h = elim h [ inl e ↦ ap (λ x. x ∷ []) (sym e) | inr none ↦ absurd none ]

alone_two : (k l : ErrorKind) → (DisplayVersion ≡ k → ⊥) → (DisplayVersion ≡ l → ⊥) → Alone (k ∷ l ∷ [])
alone_two k l first next h = elim h [ inl is ↦ absurd (first is) | inr rest ↦ elim rest [ inl is ↦ absurd (next is) | inr none ↦ absurd none ] ]

alone_or : (a b : Kinds) → Alone a → Alone b → Alone (or_else a b)
alone_or [] b first next = next
alone_or (k ∷ ks) b first next = first

alone_if : (b : Bool) (x y : Kinds) → Alone x → Alone y → Alone (cond b x y)
alone_if true x y first next = first
alone_if false x y first next = next

alone_option : {X : Type 0} (o : Option X) (f : X → Kinds) (d : Kinds) → ((x : X) → Alone (f x)) → Alone d → Alone (option_map_or f o d)
alone_option None f d some none = none
alone_option (Some x) f d some none = some x

-- One use of an argument.

alone_value : (ignore_case : Bool) (parser : ValueParser) (text : Text) → Alone (value_kinds ignore_case parser text)
alone_value ignore_case parser text = alone_if (accepts ignore_case parser text) [] (refused_kind parser ∷ []) alone_none (alone_one (refused_kind parser))

alone_values : (ignore_case : Bool) (parser : ValueParser) (texts : List Text) → Alone (values_kinds ignore_case parser texts)
alone_values ignore_case parser [] = alone_none
alone_values ignore_case parser (v ∷ vs) = alone_or (value_kinds ignore_case parser v) (values_kinds ignore_case parser vs) (alone_value ignore_case parser v) (alone_values ignore_case parser vs)

alone_range : (least most n : ℕ) → Alone (range_kinds least most n)
alone_range least most n =
    let no = kind.InvalidValue ∷ [] in
    let other = kind.WrongNumberOfValues ∷ [] in
    let few = kind.TooFewValues ∷ [] in
    let many = kind.TooManyValues ∷ [] in
    let above = cond (nat_lt most n) many [] in
    let outside = cond (nat_lt n least) few above in
    let exact = cond (least == n) [] other in
    let rest = cond (least == most) exact outside in
    alone_if (nat_lt 0 least && n == 0) no rest (alone_one kind.InvalidValue)
    (alone_if (least == most) exact outside (alone_if (least == n) [] other alone_none (alone_one kind.WrongNumberOfValues))
    (alone_if (nat_lt n least) few above (alone_one kind.TooFewValues) (alone_if (nat_lt most n) many [] (alone_one kind.TooManyValues) alone_none)))

alone_request : (x : ArgAction) → Alone (request_kinds x)
alone_request action.Set = alone_none
alone_request action.Append = alone_none
alone_request action.SetTrue = alone_none
alone_request action.SetFalse = alone_none
alone_request action.Count = alone_none
alone_request action.Help = alone_one kind.DisplayHelp
alone_request action.HelpShort = alone_one kind.DisplayHelp
alone_request action.HelpLong = alone_one kind.DisplayHelp
alone_request action.Version = alone_one kind.DisplayVersion

alone_count : (a : Rule) (values : List Text) (rows : List Row) → Alone (count_fault a values rows)
alone_count a [] rows = alone_value a.ignore_case (parser_of_value a.parser) (count_text (min (count_of a.id rows + 1) 255))
alone_count a (v ∷ vs) rows = alone_values a.ignore_case (parser_of_value a.parser) (v ∷ vs)

alone_set : (again : Bool) (a : Rule) (values : List Text) (rows : List Row) → Alone (set_fault again a values rows)
alone_set again a values rows = alone_or (repeat_fault again a.id rows) (values_fault a values)
    (alone_if (has_row a.id rows && not again) (kind.ArgumentConflict ∷ []) [] (alone_one kind.ArgumentConflict) alone_none)
    (alone_values a.ignore_case (parser_of_value a.parser) values)

alone_action : (x : ArgAction) (again : Bool) (a : Rule) (values : List Text) (rows : List Row) → Alone (action_fault x again a values rows)
alone_action action.Set again a values rows = alone_set again a values rows
alone_action action.SetTrue again a values rows = alone_set again a values rows
alone_action action.SetFalse again a values rows = alone_set again a values rows
alone_action action.Append again a values rows = alone_values a.ignore_case (parser_of_value a.parser) values
alone_action action.Count again a values rows = alone_count a values rows
alone_action action.Help again a values rows = alone_one kind.DisplayHelp
alone_action action.HelpShort again a values rows = alone_one kind.DisplayHelp
alone_action action.HelpLong again a values rows = alone_one kind.DisplayHelp
alone_action action.Version again a values rows = alone_one kind.DisplayVersion

alone_use : (again : Bool) (a : Rule) (values : List Text) (rows : List Row) → Alone (use_fault again a values rows)
alone_use again a values rows = alone_or (range_kinds (unwrap_or_range a.range).start_inclusive (most_values a) (length values))
    (action_fault (action_of a) again a (values_or_missing a values) rows)
    (alone_range (unwrap_or_range a.range).start_inclusive (most_values a) (length values))
    (alone_action (action_of a) again a (values_or_missing a values) rows)

-- The walk.

alone_settle : (c : List Rule) (again : Bool) (h : Held) → Alone (settle_fault c again h)
alone_settle c again h = alone_option h.pending (λ p. option_map_or (λ a. use_fault again a p.1 h.rows) (arg_by_id c p.0) []) []
    (λ p. alone_option (arg_by_id c p.0) (λ a. use_fault again a p.1 h.rows) [] (λ a. alone_use again a p.1 h.rows) alone_none) alone_none

alone_react : (c : List Rule) (again : Bool) (a : Rule) (values : List Text) (h : Held) → Alone (react_fault c again a values h)
alone_react c again a values h = alone_or (settle_fault c again h) (use_fault again a values (settled c h).rows)
    (alone_settle c again h) (alone_use again a values (settled c h).rows)

alone_value_option : (c : List Rule) (again : Bool) (a : Rule) (v : Option Text) (h : Held) → Alone (option_fault c again a v h)
alone_value_option c again a (Some v) h = alone_react c again a (v ∷ []) h
alone_value_option c again a None h = alone_settle c again h

alone_long : (c : List Rule) (again : Bool) (found : Option Rule) (v : Option Text) (h : Held) → Alone (long_fault c again found v h)
alone_long c again None v h = alone_one kind.UnknownArgument
alone_long c again (Some a) v h =
    let many = kind.TooManyValues ∷ [] in
    let flag = cond (is_some v) many (react_fault c again a [] h) in
    alone_if (takes_values a) (option_fault c again a v h) flag (alone_value_option c again a v h)
    (alone_if (is_some v) many (react_fault c again a [] h) (alone_one kind.TooManyValues) (alone_react c again a [] h))

alone_short : (c : List Rule) (again : Bool) (found : Option Rule) (rest : Text) (h : Held) (next : Held → Kinds) → ((g : Held) → Alone (next g))
    → Alone (short_fault c again found rest h next)
alone_short c again None rest h next later = alone_one kind.UnknownArgument
alone_short c again (Some a) rest h next later =
    let flag = or_else (react_fault c again a [] h) (next (reacted c a [] h)) in
    alone_if (takes_values a) (option_fault c again a (attached_value rest) h) flag (alone_value_option c again a (attached_value rest) h)
    (alone_or (react_fault c again a [] h) (next (reacted c a [] h)) (alone_react c again a [] h) (later (reacted c a [] h)))

alone_bundle_step : (c : List Rule) (again : Bool) (x : Option ℕ) (flags : Text) (skip : ℕ) (h : Held) (next : Text → ℕ → Held → Kinds)
    → ((t : Text) (n : ℕ) (g : Held) → Alone (next t n g)) → Alone (bundle_step_fault c again x flags skip h next)
alone_bundle_step c again None flags skip h next later = alone_none
alone_bundle_step c again (Some x) flags zero h next later =
    let rest = drop (length (encode_utf8 x)) flags in
    alone_short c again (arg_by_short c x) rest h (next rest 0) (λ g. later rest 0 g)
alone_bundle_step c again (Some x) flags (suc skip) h next later = later (drop (length (encode_utf8 x)) flags) skip h

alone_flags : (c : List Rule) (again : Bool) (k : ℕ) (flags : Text) (skip : ℕ) (h : Held) → Alone (flags_fault c again k flags skip h)
unfolding flags_fault
alone_flags c again zero flags skip h = alone_none
alone_flags c again (suc k) flags skip h = alone_bundle_step c again (slice_get (chars flags) 0) flags skip h (flags_fault c again k) (λ t n g. alone_flags c again k t n g)

alone_flag_word : (c : List Rule) (again : Bool) (long : Option (Text × Option Text)) (word : Text) (h : Held) → Alone (flag_word_fault c again long word h)
alone_flag_word c again (Some p) word h = alone_long c again (arg_by_long c p.0) p.1 h
alone_flag_word c again None word h = alone_option (short_of word) (λ flags. bundle_fault c again flags h) [] (λ flags. alone_flags c again (length flags) flags h.skip (record h { skip = 0 })) alone_none

alone_other : (s : Shape) (name : Option Text) (word : Text) (h : Held) → Alone (other_fault s name word h)
alone_other s (Some name) word h = alone_if (bytes_eq name (codes "help") && not s.disable_help_subcommand) (kind.DisplayHelp ∷ kind.InvalidSubcommand ∷ []) [] (alone_two kind.DisplayHelp kind.InvalidSubcommand (λ is. cc is) (λ is. cc is)) alone_none
alone_other s None word h = alone_if (bytes_eq word (45 ∷ 45 ∷ [])) [] (flag_word_fault s.rules s.args_override_self (long_of word) word h)
    alone_none (alone_flag_word s.rules s.args_override_self (long_of word) word h)

alone_word : (s : Shape) (names : Names) (is_trailing : Bool) (waiting : Waiting) (word : Text) (h : Held) → Alone (word_fault s names is_trailing waiting word h)
alone_word s names is_trailing waiting word h = alone_if is_trailing [] (other_fault s (subcommand_met names waiting word) word h) alone_none (alone_other s (subcommand_met names waiting word) word h)

alone_positional : (c : List Rule) (again : Bool) (a : Rule) (h : Held) → Alone (positional_fault c again a h)
alone_positional c again a h = alone_if (is_pending a h.pending && takes_several a) [] (settle_fault c again h) alone_none (alone_settle c again h)

alone_stray : (s : Shape) → Alone (stray_fault s)
alone_stray s = alone_if s.is_leaf (kind.UnknownArgument ∷ []) (kind.UnknownArgument ∷ kind.InvalidSubcommand ∷ []) (alone_one kind.UnknownArgument) (alone_two kind.UnknownArgument kind.InvalidSubcommand (λ is. cc is) (λ is. cc is))

alone_step : (s : Shape) (position : ℕ) (h : Held) (step : Step) → Alone (step_fault s position h step)
alone_step s position h value =
    alone_option (arg_by_index s.rules position) (λ a. positional_fault s.rules s.args_override_self a h) (stray_fault s) (λ a. alone_positional s.rules s.args_override_self a h) (alone_stray s)
alone_step s position h (walks.next waiting) = alone_none
alone_step s position h (walks.trailing n) = alone_none
alone_step s position h (walks.subcommand name) = alone_none

alone_turn : (s : Shape) (names : Names) (w : Walk) (word : Text) → Alone (turn_fault s names w word)
alone_turn s names w word =
    let met = word_met s.rules names w.is_trailing w.waiting w.position word w.held in
    let first = word_fault s names w.is_trailing w.waiting word w.held in
    let next = step_fault s w.position met.0 met.1 in
    alone_if (is_some w.stopped) [] (or_else first next) alone_none
    (alone_or first next (alone_word s names w.is_trailing w.waiting word w.held) (alone_step s w.position met.0 met.1))

alone_walk : (s : Shape) (names : Names) (w : Walk) (words : List Text) → Alone (walk_fault s names w words)
unfolding walk_fault
alone_walk s names w [] = alone_none
alone_walk s names w (word ∷ rest) = alone_or (turn_fault s names w word) (walk_fault s names (walked s.rules names w word) rest) (alone_turn s names w word) (alone_walk s names (walked s.rules names w word) rest)

-- After the walk.

alone_default : (rows : List Row) (a : Rule) → Alone (default_fault rows a)
alone_default rows a = alone_if (has_row a.id rows || is_empty a.defaults) [] (given_default_fault a a.defaults) alone_none
    (alone_or (request_kinds (action_of a)) (values_fault a a.defaults) (alone_request (action_of a)) (alone_values a.ignore_case (parser_of_value a.parser) a.defaults))

alone_defaults : (rows : List Row) (rules : List Rule) → Alone (defaults_fault rows rules)
unfolding defaults_fault
alone_defaults rows [] = alone_none
alone_defaults rows (a ∷ rest) = alone_or (default_fault rows a) (defaults_fault (with_default rows a) rest) (alone_default rows a) (alone_defaults (with_default rows a) rest)

alone_check : (help subcommand argument : Bool) → Alone (check_kinds help subcommand argument)
alone_check help subcommand argument =
    let nothing = kind.DisplayHelpOnMissingArgumentOrSubcommand ∷ [] in
    let none = kind.MissingSubcommand ∷ [] in
    let one = kind.MissingRequiredArgument ∷ [] in
    alone_if help nothing (cond subcommand none (cond argument one [])) (alone_one kind.DisplayHelpOnMissingArgumentOrSubcommand)
    (alone_if subcommand none (cond argument one []) (alone_one kind.MissingSubcommand) (alone_if argument one [] (alone_one kind.MissingRequiredArgument) alone_none))

alone_checks : (s : Shape) (rows : List Row) (has_subcommand : Bool) → Alone (check_fault s rows has_subcommand)
alone_checks s rows has_subcommand = alone_check
    (not has_subcommand && (s.arg_required_else_help && not (list_any (λ r. explicit_source r.source) rows)))
    (not has_subcommand && s.subcommand_required)
    (not (s.subcommand_negates_reqs && has_subcommand) && list_any (λ a. a.required && not (is_given a.id rows)) s.rules)

alone_level : (s : Shape) (names : Names) (h : Held) (words : List Text) (has_subcommand : Bool) (below : Kinds) → Alone below
    → Alone (level_fault s names h words has_subcommand below)
alone_level s names h words has_subcommand below fine =
    let end = (walk s.rules names h words).held in
    let settling = settle_fault s.rules s.args_override_self end in
    let defaults = defaults_fault (settled s.rules end).rows s.rules in
    let checks = check_fault s (finished s.rules end) has_subcommand in
    alone_or (walk_fault s names (walk_from h) words) (or_else below (or_else settling (or_else defaults checks)))
    (alone_walk s names (walk_from h) words)
    (alone_or below (or_else settling (or_else defaults checks)) fine
    (alone_or settling (or_else defaults checks) (alone_settle s.rules s.args_override_self end)
    (alone_or defaults checks (alone_defaults (settled s.rules end).rows s.rules) (alone_checks s (finished s.rules end) has_subcommand))))

alone_entered : (a : App) (stop : Option (Text × List Text)) → Alone (entered_fault a stop)
alone_entered a stop =
    let met = λ (p : Text × List Text). find (λ s. answers_to p.0 (label_of s)) a.subs in
    let below = λ (p : Text × List Text) (s : Shape). level_fault s [] nothing_held p.1 false [] in
    alone_option stop (λ p. option_map_or (below p) (met p) []) []
    (λ p. alone_option (met p) (below p) [] (λ s. alone_level s [] nothing_held p.1 false [] alone_none) alone_none) alone_none

alone_built : (a : App) (h : Held) (words : List Text) → Alone (built_fault a h words)
alone_built a h words =
    let stop = (walk a.top.rules (names_of a) h words).stopped in
    alone_level a.top (names_of a) h words (is_some (entered a stop)) (entered_fault a stop) (alone_entered a stop)

-- The version alone, if it is among the kinds.
pub alone_fault : (a : App) (words : List Text) → IsAmong DisplayVersion (fault_of a words) → fault_of a words ≡ DisplayVersion ∷ []
alone_fault a words = alone_built (built a) nothing_held (argument_words a words)

-- An error with the kind of the version.
pub has_version : (kinds : Kinds) (e : Error) → HasKind kinds e → kind_of e ≡ DisplayVersion → IsAmong DisplayVersion kinds
has_version kinds e h is = elim h [ inl memory ↦ absurd (cc (is, memory)) | inr among ↦ rw (← is) among ]

-- An error of words that ask for the version has that kind.
pub only_version : (kinds : Kinds) (e : Error) → HasKind kinds e → (kind_of e ≡ OutOfMemory → ⊥) → kinds ≡ DisplayVersion ∷ [] → kind_of e ≡ DisplayVersion
only_version kinds e h silent alone = elim h [
  | inl memory ↦ absurd (silent memory)
  | inr among ↦ let one = rw alone at among in elim one [ inl is ↦ is | inr none ↦ absurd none ]
]
