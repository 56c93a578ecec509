-- The groups of entries from which lines are still tried, and the number of trials (own).
use Rattle.std.specs.Prelude.{◌≡◌, ◌<◌, ◌≤◌, ◌+◌, ◌-◌, ◌⊎◌, ℕ, ℤ, Bool, true, false, ◌||◌, List, [], ◌∷◌}
use Rattle.std.specs.Prelude.{◌++◌, ◌==◌, if◌then◌else◌, length, map}
use Rattle.std.specs.Prelude.{pos, int_lt, drop, slice_get, Option, Some, None}
use Rattle.node_core.specs.declared.params.Params.{Params}
use Rattle.break_lines.specs.declared.group.ActiveGroup.{ActiveGroup}
use Rattle.break_lines.specs.Problems.{Problem, max_places}
use Rattle.break_lines.specs.declared.state.BreakState.{BreakState}
use Rattle.break_lines.specs.declared.state.LineCost.{LineCost}
use Rattle.break_lines.specs.Tables.{Entry, slots, IsTable, IsRow, offer}
use Rattle.break_lines.specs.Private.Live.{IsGroup}
use Rattle.break_lines.specs.Private.Parts.{problem_without}
use Rattle.break_lines.specs.Chosen.{AdmitsNone}
use Rattle.break_lines.specs.declared.cost.Bound.{Bound}
use Rattle.break_lines.specs.declared.cost.Bound.TheVariants.{Any, AtMost}
use Rattle.break_core.specs.declared.broken.Pass.{Pass}
use Rattle.break_lines.specs.Legal.{is_forced}
use Rattle.break_lines.specs.Costs.{line_fit, admitted_line, is_loosest, line_after}
use Rattle.break_lines.specs.Private.Costs.{loosest_line}
use Rattle.break_lines.specs.Facts.{Facts}
use Rattle.break_lines.specs.Steady.{IsSteady}
use Rattle.break_core.specs.declared.pass_rules.StopRule.{StopRule}
use Rattle.break_core.specs.declared.pass_rules.StopRule.TheVariants.{Never, Overfull, Long}
use Rattle.break_core.specs.declared.active_list.Live.{Live}
use Rattle.break_core.specs.declared.active_list.LiveGroups.{LiveGroups}
use Rattle.break_core.specs.Passes.{problem_of, bound_of, IsBefore}
use Rattle.break_core.specs.Trials.{is_overfull, IsStop, places_up_to, passes_run}
use Rattle.break_core.specs.Private.LeftOut.{is_long, over_before, MayLeaveOut}
use Rattle.break_core.specs.Private.Filling.{IsOf}
use Rattle.break_core.specs.declared.row.Offer.{Offer}
use Rattle.break_core.specs.Private.Offers.{AreOffers, AreBestFor, IsAtMost, IsBelow, IsLaterOrBetter}

-- Whether trying lines from a place stops after a line from there, which is overfull or not, and long or not.
abbrev pub stops_after : StopRule → (overfull long : Bool) → Bool
stops_after Never overfull long = false
stops_after Overfull overfull long = overfull
stops_after Long overfull long = long

-- Whether no line from place a is tried beyond place l.
abbrev pub stops_at : Facts → Params → StopRule → (a l : ℕ) → Bool
stops_at facts params rule a l = is_forced (facts.penalty l) || stops_after rule (is_overfull facts params a l) (is_long facts params a l)

-- Whether a line, which is long or not, is left out.
abbrev pub leaves_out : StopRule → (long : Bool) → Bool
leaves_out rule long = stops_after rule false long

-- A pass without the lines that are left out by a rule.
abbrev pub problem_leaving_out : Facts → Params → Bound → StopRule → Problem
problem_leaving_out facts params bound rule =
    problem_without (problem_of facts params bound) (λ s b. leaves_out rule (is_long facts params s.place b))

-- Whether a bound refuses overfull lines.
abbrev pub is_limit : Bound → Bool
is_limit Any = false
is_limit (AtMost most) = true

-- The greatest badness of the lines that a bound admits and that are not overfull.
abbrev pub most_admitted : Bound → ℤ
most_admitted Any = pos 10000
most_admitted (AtMost most) = most

-- The badness above which places wait after a stretched line, given the greatest badness that is admitted; no line has more than 10000.
abbrev pub wait_limit : (waits : Bool) → (most : ℤ) → ℤ
wait_limit true most = if int_lt (pos 9999) most then pos 9999 else most
wait_limit false most = pos 10000

-- Trying can stop after overfull lines.
abbrev pub MayStopOverfull : Facts → Bound → Type 0
MayStopOverfull facts bound = IsSteady facts × (is_limit bound ≡ true)

-- Trying can stop by this rule.
abbrev pub MayStop : StopRule → Facts → Params → Bound → Type 0
MayStop Never facts params bound = Unit {0}
MayStop Overfull facts params bound = MayStopOverfull facts bound
MayStop Long facts params bound = MayLeaveOut facts params × (bound ≡ Any)

-- The entries `from` to `to` have no offers for any place from b on.
abbrev pub IsSilentWithin : (p : Problem) (table : List Entry) (b from to : ℕ) → Type 0
IsSilentWithin p table b from to =
    (k : ℕ) (e : Entry) → from ≤ k → k < to → slice_get table k ≡ Some e → (l : ℕ) → b ≤ l → l ≤ p.places → offer p e k l ≡ None

-- Trying lines from place a has not stopped before place b.
abbrev pub HasNotStopped : (stop : ℕ → ℕ → Bool) (a b : ℕ) → Type 0
HasNotStopped stop a b = (l : ℕ) → a < l → l < b → stop a l ≡ false

-- The next group from an entry on, with silent entries before it; its place is at least `low`, and trying lines from there has not stopped.
pub record IsNext (p : Problem) (stop : ℕ → ℕ → Bool) (table : List Entry) (b at low : ℕ) (g : ActiveGroup) : Type 0 where
  pub gap : at ≤ g.start
  pub silent : IsSilentWithin p table b at g.start
  pub group : IsGroup p table b g
  pub not_stopped : HasNotStopped stop g.place b
  pub later : low ≤ g.place

-- The rest of the table after all groups, of which the last has a place below `high`.
pub record IsLast (p : Problem) (table : List Entry) (b high at low : ℕ) : Type 0 where
  pub gap : at ≤ length table
  pub silent : IsSilentWithin p table b at (length table)
  pub lower : low ≤ high

-- The part of the table from an entry on consists of these groups, with silent entries between them; their places increase from `low` on and are
-- below `high`.
abbrev pub IsActive : (p : Problem) (stop : ℕ → ℕ → Bool) (table : List Entry) (b high at low : ℕ) → List ActiveGroup → Type 0
IsActive p stop table b high at low [] = IsLast p table b high at low
IsActive p stop table b high at low (g ∷ groups) = IsNext p stop table b at low g × IsActive p stop table b high g.end (g.place + 1) groups

-- A list of groups with one more group appended, unless that has no entries.
abbrev pub with_group : List ActiveGroup → ActiveGroup → List ActiveGroup
with_group groups g = if g.start == g.end then groups else groups ++ g ∷ []

-- The groups of live groups.
abbrev pub groups_of : List Live → List ActiveGroup
groups_of lives = map (λ (live : Live). live.group) lives

-- The live groups.
abbrev pub live_of : LiveGroups → List Live
live_of lives = drop lives.first lives.list.items

-- Each live group has the right `over` for the lines from its place to the places before b.
abbrev pub AreOver : Facts → Params → (b : ℕ) → List Live → Type 0
AreOver facts params b lives = (k : ℕ) (live : Live) → slice_get lives k ≡ Some live → live.over ≡ over_before facts params live.group.place b

-- The offers of a live group are the best ones of its entries, if no lines are counted.
abbrev pub HasBest : (table : List Entry) → Params → Live → Type 0
HasBest table params live = params.first_lines ≡ 0 → AreBestFor table params live.group.start live.group.end live.best

-- Each live group has the right offers.
abbrev pub HaveBest : (table : List Entry) → Params → List Live → Type 0
HaveBest table params lives = (k : ℕ) (live : Live) → slice_get lives k ≡ Some live → HasBest table params live

-- A list of live groups with one more appended, unless that has no entries.
abbrev pub with_live : List Live → Live → List Live
with_live lives live = if live.group.start == live.group.end then lives else lives ++ live ∷ []

-- The table is filled up to a place.
pub record IsFilled (p : Problem) (stop : ℕ → ℕ → Bool) (b : ℕ) (table : List Entry) (live : List ActiveGroup) : Type 0 where
  pub is_table : IsTable p b table
  pub is_active : IsActive p stop table b b 0 0 live

-- Lines to place b were tried at most once from each place, and only from places from which trying had not stopped.
abbrev pub IsSwept : (stop : ℕ → ℕ → Bool) (b : ℕ) (before now : ℕ → ℕ) → Type 0
IsSwept stop b before now = (a : ℕ) → (now a ≤ before a) ⊎ ((now a ≤ before a + 1) × (a < b) × HasNotStopped stop a b)

-- The counts of trials never decrease.
abbrev pub TrialsOnlyGrow : (before now : ℕ → ℕ) → Type 0
TrialsOnlyGrow before now = (a : ℕ) → before a ≤ now a

-- A line was tried from the place of the first of these groups.
abbrev pub WasTried : List ActiveGroup → (before now : ℕ → ℕ) → Type 0
WasTried live before now = (g : ActiveGroup) → slice_get live 0 ≡ Some g → before g.place < now g.place

-- No lines are counted, and the lines to place b from all places from `low` on are stretched by so much that they cost what the loosest line costs.
pub record AreLoosest (facts : Facts) (params : Params) (bound : Bound) (low b : ℕ) : Type 0 where
  pub uncounted : params.first_lines ≡ 0
  pub loosest : (a : ℕ) → low ≤ a → a < b → is_loosest bound (line_fit (facts.sums a b) params.hsize) ≡ true

-- There is no group, or all wait: the lines from them are such lines.
abbrev pub AllWait : Facts → Params → Bound → (low b : ℕ) → List ActiveGroup → Type 0
AllWait facts params bound low b groups = (groups ≡ []) ⊎ AreLoosest facts params bound low b

-- The lines to place b from the places of these groups cost what the loosest line costs.
abbrev pub CostLoosest : Problem → Params → Bound → (penalty : ℤ) → (b : ℕ) → List ActiveGroup → Type 0
CostLoosest p params bound penalty b groups =
    (k : ℕ) (g : ActiveGroup) → slice_get groups k ≡ Some g
    → (s : BreakState) → s.place ≡ g.place → p.line s b ≡ admitted_line params bound penalty s.class loosest_line

-- The entries of a group that waits can be offered for a place.
pub record CanWait (first_lines : ℕ) (table : List Entry) (place : ℕ) (group : ActiveGroup) : Type 0 where
  pub within : group.end ≤ length table
  pub earlier : group.place < place
  pub entries : IsOf first_lines table group

-- The entries of each group of a list can be offered.
abbrev pub CanAllWait : (first_lines : ℕ) → (table : List Entry) → (place : ℕ) → List Live → Type 0
CanAllWait first_lines table place lives = (k : ℕ) (live : Live) → slice_get lives k ≡ Some live → CanWait first_lines table place live.group

-- The places of groups increase.
abbrev pub AreRising : List Live → Type 0
AreRising lives =
    (j k : ℕ) (live next : Live) → k ≡ j + 1 → slice_get lives j ≡ Some live → slice_get lives k ≡ Some next → live.group.place < next.group.place

-- These offers are of entries of earlier places than that of group number k.
abbrev pub AreOffersBefore : (table : List Entry) → List Live → (k : ℕ) → List Offer → Type 0
AreOffersBefore table lives k offers = (live : Live) → slice_get lives k ≡ Some live → AreOffers table live.group.place offers

-- The one of two groups whose best offer before a line of the class with this number is better; the second one is later.
pub record IsLaterOrBetterFor (slot : ℕ) (held next r : Live) : Type 0 where
  pub before : Offer
  pub after : Offer
  pub best : Offer
  pub held_best : slice_get held.best slot ≡ Some before
  pub next_best : slice_get next.best slot ≡ Some after
  pub is : slice_get r.best slot ≡ Some best
  pub better : IsLaterOrBetter before after best

-- The best offer of the first n of these groups before a line of the class with this number; of two with the same totals the later one is better.
pub record IsLeastOf (lives : List Live) (n slot : ℕ) (best : Offer) : Type 0 where
  pub by : ℕ
  pub live : Live
  pub present : slice_get lives by ≡ Some live
  pub is : slice_get live.best slot ≡ Some best
  pub least :
      (k : ℕ) (other : Live) → k < n → slice_get lives k ≡ Some other
      → (o : Offer) × (slice_get other.best slot ≡ Some o) × (IsBelow best o ⊎ ((k ≤ by) × IsAtMost best o))

-- The entries of groups that wait can be offered for a place, one group after the other.
pub record CanOfferWaiting (params : Params) (row : List (Option Entry)) (table : List Entry) (lives : List Live) (place : ℕ) : Type 0 where
  pub wide : length row ≡ slots params.first_lines
  pub uncounted : 0 < length lives → params.first_lines ≡ 0
  pub each : CanAllWait 0 table place lives
  pub rising : AreRising lives
  pub best : HaveBest table params lives
  pub places : place ≤ max_places

-- The lines to place b from the places of these groups are one line, but for the demerits for the class of the line before it.
abbrev pub HaveLine : Problem → Params → (alone : LineCost) → (b : ℕ) → List ActiveGroup → Type 0
HaveLine p params alone b groups =
    (k : ℕ) (g : ActiveGroup) → slice_get groups k ≡ Some g
    → (s : BreakState) → s.place ≡ g.place → p.line s b ≡ Some (line_after params s.class alone)

-- The step from one row to another: the entries of these groups were offered by a line, and there are no more offers.
abbrev pub IsOfferingEach : (table : List Entry) → Params → (alone : LineCost) → List Live → (place : ℕ) → (old new : List (Option Entry)) → Type 0
IsOfferingEach table params alone lives place old new =
    (p : Problem) (stop : ℕ → ℕ → Bool) (at low : ℕ)
    → p.cut ≡ params.first_lines → place ≤ p.places → HaveLine p params alone place (groups_of lives)
    → IsActive p stop table place place at low (groups_of lives) → IsRow p table place at old → IsRow p table place (length table) new

-- The same for groups that wait: the lines from all of them cost what the loosest line costs.
abbrev pub IsOfferingWaiting :
    (table : List Entry) → Params → Bound → List Live → (place : ℕ) → (penalty : ℤ) → (old new : List (Option Entry)) → Type 0
IsOfferingWaiting table params bound lives place penalty old new =
    (p : Problem) (stop : ℕ → ℕ → Bool) (at low : ℕ)
    → p.cut ≡ params.first_lines → place ≤ p.places → CostLoosest p params bound penalty place (groups_of lives)
    → IsActive p stop table place place at low (groups_of lives) → IsRow p table place at old → IsRow p table place (length table) new

-- From each place at most as many lines were tried as there are places after it, both up to b and up to each place where trying stops.
pub record IsCounted (stop : ℕ → ℕ → Bool) (b : ℕ) (before now : ℕ → ℕ) : Type 0 where
  pub grown : (a : ℕ) → now a ≤ before a + (b - a)
  pub stopped : (a l : ℕ) → a < l → l ≤ b → stop a l ≡ true → now a ≤ before a + (l - a)

-- In a pass no line was tried beyond the place where trying stops.
abbrev pub IsWithin : Facts → Params → Pass → (before now : ℕ → ℕ) → Type 0
IsWithin facts params pass before now = (a l : ℕ) → IsStop facts params pass a l → now a ≤ before a + (l - a)

-- In these passes no line was tried beyond the place where trying stops in each of them.
abbrev pub AreAdded : Facts → Params → List Pass → (before now : ℕ → ℕ) → Type 0
AreAdded facts params passes before now =
    (a : ℕ) (stop : Pass → ℕ) → ((pass : Pass) → IsStop facts params pass a (stop pass)) → now a ≤ before a + places_up_to a stop passes

-- In the passes up to some pass, before which no pass admits a list of breaks, no line was tried beyond these places, and no later pass was run.
pub record AreAddedByPasses (facts : Facts) (params : Params) (before now : ℕ → ℕ) : Type 0 where
  pub last : Pass
  pub earlier : (pass : Pass) → IsBefore pass last → AdmitsNone (problem_of facts params (bound_of params pass))
  pub added : AreAdded facts params (passes_run params last) before now
