-- Starts of an entry, judged one after another and at once.
use Rattle.std.proofs.Common.{◌≡◌, ℕ, zero, suc, ◌+◌, ◌-◌, ◌*◌, ◌<◌, ◌≤◌, ◌==◌, Bool, true, false, List, [], ◌∷◌, ◌++◌, length, map, set, take, drop, get_or, Option, Some, None, refl, sym, ap, subst, ◌∙◌, arith, eq-eqb, append_assoc, inl, inr}
use Rattle.std.specs.List.{list_all, range_with_len}
use Rattle.std.proofs.lemmas.Bool.{cases_eq, false_from_ne_true, eqb-true}
use Rattle.std.proofs.lemmas.List.{append-nil, map-append, length-map, length-append, drop_all, take_all, length-set, get_or-set_same, get_or-set_other}
use Rattle.std.proofs.lemmas.List.FromFn.{length-range_with_len}
use Rattle.std.proofs.lemmas.Option.{slice_get_within}
use Rattle.stim_read.specs.CycleRules.{Targets, has_known_name}
use Rattle.stim_read.specs.TxText.{Starts, tx_entry_seen}
use Rattle.stim_read.specs.TxEvents.{Event, EventList}
use Rattle.stim_read.specs.TxRules.{Start, start_of, starts_of, starts_in, event_number, event_by, is_given, all_fit, value_or_0}
use Rattle.stim_read.specs.TxRun.{Transaction, transaction_of, transaction_seen}
use Rattle.fil_ast.specs.declared.tx.Tx.{Tx}
use Rattle.stim_read.specs.inside.TxWalk.{IsEntry, rows_from, start_rows, starts_fault, last_after, last_by, entry_fault, started, values_fault, latest_start, start_fault, tx_fault, txs_fault}
use Rattle.stim_read.specs.inside.Walk.{first_fault, unless, IsTold}
use Rattle.stim_read.specs.Rules.{refused}
use Rattle.stim_read.specs.declared.given.Given.{Given}
use Rattle.stim_read.specs.declared.stim_end.StimEnd.{StimEnd}
use Rattle.stim_read.specs.declared.tx_text.TxEntry.{TxEntry}
use Rattle.stim_read.proofs.EachLemmas.{cut_at}
use Rattle.stim_read.proofs.FaultLemmas.{told_first, assoc}

-- these starts become earlier ones
abbrev pub onto : List Start → List Start → List Start
onto [] earlier = earlier
onto (s ∷ later) earlier = onto later (s ∷ earlier)

kept_any : (a b c : Bool) (n m : ℕ) → first_fault (unless a (refused 3 n)) (first_fault (unless b (refused 6 n)) (unless c (refused 4 n))) ≡ None
    → first_fault (unless a (refused 3 m)) (first_fault (unless b (refused 6 m)) (unless c (refused 4 m))) ≡ None
kept_any true true true n m h = refl
kept_any true true false n m h = cc
kept_any true false c n m h = cc
kept_any false b c n m h = cc

-- values that are kept are so whatever the number of the transaction
values_kept : (inputs : Targets) (n m : ℕ) (given : List Given) → values_fault inputs n given ≡ None → values_fault inputs m given ≡ None
values_kept inputs n m given h = kept_any (list_all (has_known_name inputs.names) given) (list_all (is_given given) inputs.names) (all_fit inputs.widths (map (value_or_0 given) inputs.names)) n m h

range_more : (a t : ℕ) → 0 < t → range_with_len a t ≡ a ∷ range_with_len (a + 1) (t - 1)
range_more a zero some = absurd (omega arith)
range_more a (suc m) some = let e : m ≡ suc m - 1 = omega arith in ap (λ k. a ∷ range_with_len (a + 1) k) e

module _ (ev : EventList) (event : Event) (e : Starts) (by : event_by ev e.event ≡ Some event) where
  abbrev number : ℕ
  number = event_number ev.names e.event

  abbrev row : ℕ → ℕ
  row k = e.start + k * e.repeat.every

  last_here : (earlier : List Start) (k : ℕ) → latest_start ev.names number (start_of e k ∷ earlier) ≡ Some (row k)
  last_here earlier k = rw (eq-eqb number number refl) refl

  last_there : (j : ℕ) → (number ≡ j → ⊥) → (earlier : List Start) (k : ℕ) → latest_start ev.names j (start_of e k ∷ earlier) ≡ latest_start ev.names j earlier
  last_there j apart earlier k = let off : (number == j) ≡ false = false_from_ne_true (number == j) (λ on. apart (eqb-true number j on)) in rw off refl

  pub last_same : (ks : List ℕ) (earlier : List Start) → latest_start ev.names number (onto (map (start_of e) ks) earlier) ≡ last_after (latest_start ev.names number earlier) (rows_from e ks)
  last_same [] earlier = refl
  last_same (k ∷ ks) earlier = last_same ks (start_of e k ∷ earlier) ∙ ap (λ b. last_after b (rows_from e ks)) (last_here earlier k)

  pub last_other : (j : ℕ) → (number ≡ j → ⊥) → (ks : List ℕ) (earlier : List Start) → latest_start ev.names j (onto (map (start_of e) ks) earlier) ≡ latest_start ev.names j earlier
  last_other j apart [] earlier = refl
  last_other j apart (k ∷ ks) earlier = last_other j apart ks (start_of e k ∷ earlier) ∙ last_there j apart earlier k

  module _ (n₀ : ℕ) (kept : values_fault event.inputs n₀ e.given ≡ None) where
    fault_is : (earlier : List Start) (n k : ℕ) → tx_fault ev earlier n (start_of e k) ≡ start_fault (latest_start ev.names number earlier) n event.delay (row k)
    fault_is earlier n k = rw (by, values_kept event.inputs n₀ n e.given kept) refl

    walk : (ks : List ℕ) (earlier : List Start) (n : ℕ) (rest : List Start)
        → txs_fault ev earlier n (map (start_of e) ks ++ rest) ≡ first_fault (starts_fault (latest_start ev.names number earlier) n event.delay (rows_from e ks)) (txs_fault ev (onto (map (start_of e) ks) earlier) (n + length ks) rest)
    walk [] earlier n rest = let same : n ≡ n + 0 = omega arith in ap (λ m. txs_fault ev earlier m rest) same
    walk (k ∷ ks) earlier n rest =
        let first = start_fault (latest_start ev.names number earlier) n event.delay (row k) in
        let after = onto (map (start_of e) ks) (start_of e k ∷ earlier) in
        let counted : (n + 1) + length ks ≡ n + length (k ∷ ks) = omega arith in
        ap (λ f. first_fault f (txs_fault ev (start_of e k ∷ earlier) (n + 1) (map (start_of e) ks ++ rest))) (fault_is earlier n k)
        ∙ ap (first_fault first) (walk ks (start_of e k ∷ earlier) (n + 1) rest
        ∙ ap (λ b. first_fault (starts_fault b (n + 1) event.delay (rows_from e ks)) (txs_fault ev after ((n + 1) + length ks) rest)) (last_here earlier k)
        ∙ ap (λ m. first_fault (starts_fault (Some (row k)) (n + 1) event.delay (rows_from e ks)) (txs_fault ev after m rest)) counted)
        ∙ sym (assoc first (starts_fault (Some (row k)) (n + 1) event.delay (rows_from e ks)) (txs_fault ev after (n + length (k ∷ ks)) rest))

  -- the transactions of an entry
  pub started_as : (place : ℕ) (values widths : List ℕ) → place ≡ number → values ≡ map (value_or_0 e.given) event.inputs.names → widths ≡ event.inputs.widths
      → (ks : List ℕ) → map (started place values widths) (rows_from e ks) ≡ map (transaction_of ev) (map (start_of e) ks)
  started_as place values widths p v w [] = refl
  started_as place values widths p v w (k ∷ ks) =
      let here : started place values widths (row k) ≡ transaction_of ev (start_of e k) = rw by (λ i. record { event = p i; start = row k; values = v i; widths = w i }) in
      (λ i. here i ∷ started_as place values widths p v w ks i)

-- each event's last start is in the list
pub record HasLast (ev : EventList) (last : List (Option ℕ)) (earlier : List Start) : Type 0 where
  pub count : length last ≡ length ev.events
  pub at : (k : ℕ) → k < length last → get_or last k None ≡ latest_start ev.names k earlier

none_told : (ev : EventList) (earlier : List Start) (n : ℕ) (e : Starts) (ss : List Start) (more : List Start) → event_by ev e.event ≡ None → ss ≡ start_of e 0 ∷ more → txs_fault ev earlier n ss ≡ Some (refused 3 n)
none_told ev earlier n e ss more by are = rw are (rw by refl)

broken_told : (ev : EventList) (event : Event) (earlier : List Start) (n : ℕ) (e : Starts) (ss : List Start) (more : List Start) (f : StimEnd) → event_by ev e.event ≡ Some event → values_fault event.inputs n e.given ≡ Some f → ss ≡ start_of e 0 ∷ more
    → txs_fault ev earlier n ss ≡ Some f
broken_told ev event earlier n e ss more f by broken are = rw are (rw (by, broken) refl)

module _ (ev : EventList) (last : List (Option ℕ)) (earlier : List Start) (n : ℕ) (e : Starts) (rest : List Start) (has : HasLast ev last earlier) (entry : IsEntry e) where
  abbrev Steps : Type 0
  Steps = txs_fault ev earlier n (starts_of e ++ rest) ≡ first_fault (entry_fault ev last n e) (txs_fault ev (onto (starts_of e) earlier) (n + e.repeat.times) rest)

  begins : starts_of e ++ rest ≡ start_of e 0 ∷ (map (start_of e) (range_with_len (0 + 1) (e.repeat.times - 1)) ++ rest)
  begins = ap (λ ks. map (start_of e) ks ++ rest) (range_more 0 e.repeat.times entry.some)

  by_values : (event : Event) → event_by ev e.event ≡ Some event → (v : Option StimEnd) → values_fault event.inputs n e.given ≡ v → Steps
  by_values event by (Some f) broken = broken_told ev event earlier n e (starts_of e ++ rest) _ f by broken begins ∙ sym (rw (by, broken) refl)
  by_values event by None kept =
      let within = slice_get_within ev.events (event_number ev.names e.event) event by in
      let before : last_by ev last e ≡ latest_start ev.names (event_number ev.names e.event) earlier = has.at (event_number ev.names e.event) (omega (arith, within, has.count)) in
      let counted : length (range_with_len 0 e.repeat.times) ≡ e.repeat.times = length-range_with_len 0 e.repeat.times in
      let judged : entry_fault ev last n e ≡ starts_fault (latest_start ev.names (event_number ev.names e.event) earlier) n event.delay (start_rows e) = rw (by, kept) (ap (λ b. starts_fault b n event.delay (start_rows e)) before) in
      walk ev event e by n kept (range_with_len 0 e.repeat.times) earlier n rest
      ∙ ap (λ m. first_fault (starts_fault (latest_start ev.names (event_number ev.names e.event) earlier) n event.delay (start_rows e)) (txs_fault ev (onto (starts_of e) earlier) (n + m) rest)) counted
      ∙ ap (λ f. first_fault f (txs_fault ev (onto (starts_of e) earlier) (n + e.repeat.times) rest)) (sym judged)

  by_event : (o : Option Event) → event_by ev e.event ≡ o → Steps
  by_event None by = none_told ev earlier n e (starts_of e ++ rest) _ by begins ∙ sym (rw by refl)
  by_event (Some event) by = by_values event by (values_fault event.inputs n e.given) refl

  pub entry_step : Steps
  entry_step = by_event (event_by ev e.event) refl

-- an entry without a fault is of an event that there is
pub event_there : (ev : EventList) (last : List (Option ℕ)) (n : ℕ) (e : Starts) → entry_fault ev last n e ≡ None → (event : Event) × (event_by ev e.event ≡ Some event)
event_there ev last n e kept = by (event_by ev e.event) refl where
  by : (o : Option Event) → event_by ev e.event ≡ o → (event : Event) × (event_by ev e.event ≡ Some event)
  by None is = let bad : ◌≡◌ {A = Option StimEnd} (Some (refused 3 n)) None = sym (rw is refl) ∙ kept in cc
  by (Some event) is = (event, is)

pub last_moves : (ev : EventList) (event : Event) (last : List (Option ℕ)) (earlier : List Start) (e : Starts) → event_by ev e.event ≡ Some event → HasLast ev last earlier
    → HasLast ev (set last (event_number ev.names e.event) (last_after (last_by ev last e) (start_rows e))) (onto (starts_of e) earlier)
last_moves ev event last earlier e by has =
    let number = event_number ev.names e.event in
    let moved = last_after (last_by ev last e) (start_rows e) in
    let inside = slice_get_within ev.events number event by in
    let within : number < length last = omega (arith, inside, has.count) in
    let ks = range_with_len 0 e.repeat.times in
    record {
      count = length-set last number moved ∙ has.count;
      at = λ k below. elim (cases_eq number k) [
        | inl same ↦ subst (λ j. get_or (set last number moved) j None ≡ latest_start ev.names j (onto (starts_of e) earlier)) same
            (get_or-set_same last number moved None within ∙ ap (λ b. last_after b (start_rows e)) (has.at number within) ∙ sym (last_same ev event e by ks earlier))
        | inr apart ↦ get_or-set_other last number k moved None (λ s. apart (sym s)) ∙ has.at k (omega (arith, below, length-set last number moved)) ∙ sym (last_other ev event e by k apart ks earlier)
      ];
    }

-- ---- a turn of the walk over an entry's starts

pub rows_here : (e : Starts) (k : ℕ) → k < e.repeat.times → rows_from e (range_with_len k (e.repeat.times - k)) ≡ (e.start + k * e.repeat.every) ∷ rows_from e (range_with_len (k + 1) (e.repeat.times - (k + 1)))
rows_here e k below =
    let some : 0 < e.repeat.times - k = omega arith in
    let left : (e.repeat.times - k) - 1 ≡ e.repeat.times - (k + 1) = omega arith in
    ap (rows_from e) (range_more k (e.repeat.times - k) some) ∙ ap (λ m. rows_from e (k ∷ range_with_len (k + 1) m)) left

pub rows_end : (e : Starts) (k : ℕ) → e.repeat.times ≤ k → rows_from e (range_with_len k (e.repeat.times - k)) ≡ []
rows_end e k past = let none : e.repeat.times - k ≡ 0 = omega arith in ap (λ m. rows_from e (range_with_len k m)) none

pub rows_start : (e : Starts) → rows_from e (range_with_len 0 (e.repeat.times - 0)) ≡ start_rows e
rows_start e = let all : e.repeat.times - 0 ≡ e.repeat.times = omega arith in ap (λ m. rows_from e (range_with_len 0 m)) all

pub told_on : (before : Option ℕ) (n m delay row : ℕ) (rows left : List ℕ) (all : Option StimEnd) → rows ≡ row ∷ left → start_fault before n delay row ≡ None → m ≡ n + 1 → starts_fault before n delay rows ≡ all → starts_fault (Some row) m delay left ≡ all
told_on before n m delay row rows left all cut kept counted so_far =
    ap (λ i. starts_fault (Some row) i delay left) counted ∙ ap (λ f. first_fault f (starts_fault (Some row) (n + 1) delay left)) (sym kept) ∙ ap (starts_fault before n delay) (sym cut) ∙ so_far

pub told_here : (before : Option ℕ) (n m delay row : ℕ) (rows left : List ℕ) (all : Option StimEnd) (end : StimEnd) → rows ≡ row ∷ left → m ≡ n → IsTold end (start_fault before m delay row) → starts_fault before n delay rows ≡ all → IsTold end all
told_here before n m delay row rows left all end cut counted told so_far =
    subst (IsTold end) (ap (λ i. first_fault (start_fault before i delay row) (starts_fault (Some row) (n + 1) delay left)) counted ∙ ap (starts_fault before n delay) (sym cut) ∙ so_far)
    (told_first end (start_fault before m delay row) (starts_fault (Some row) (n + 1) delay left) told)

pub last_on : (before : Option ℕ) (row : ℕ) (rows left : List ℕ) (all : Option ℕ) → rows ≡ row ∷ left → last_after before rows ≡ all → last_after (Some row) left ≡ all
last_on before row rows left all cut so_far = ap (last_after before) (sym cut) ∙ so_far

pub pushed_on : (f : ℕ → Transaction) (done : List Tx) (tx : Tx) (row : ℕ) (rows left : List ℕ) (all : List Transaction) → rows ≡ row ∷ left → transaction_seen tx ≡ f row → map transaction_seen done ++ map f rows ≡ all
    → map transaction_seen (done ++ tx ∷ []) ++ map f left ≡ all
pushed_on f done tx row rows left all cut seen so_far =
    ap (λ ts. ts ++ map f left) (map-append transaction_seen done (tx ∷ [])) ∙ append_assoc (map transaction_seen done) (transaction_seen tx ∷ []) (map f left)
    ∙ ap (λ t. map transaction_seen done ++ t ∷ map f left) seen ∙ ap (λ rs. map transaction_seen done ++ map f rs) (sym cut) ∙ so_far

pub started_is : (event row : ℕ) (values widths given_values given_widths : List ℕ) → values ≡ given_values → widths ≡ given_widths
    → ◌≡◌ {A = Transaction} (record { event = event; start = row; values = values; widths = widths }) (started event given_values given_widths row)
started_is event row values widths given_values given_widths v w = λ i. record { event = event; start = row; values = v i; widths = w i }

-- ---- a turn of the walk over the entries

pub fault_turn : (ev : EventList) (last : List (Option ℕ)) (earlier : List Start) (n : ℕ) (entries : List TxEntry) (i : ℕ) (x : TxEntry) → i < length entries → x ≡ get_or entries i x → HasLast ev last earlier → IsEntry (tx_entry_seen x)
    → txs_fault ev earlier n (starts_in (map tx_entry_seen (drop i entries)))
    ≡ first_fault (entry_fault ev last n (tx_entry_seen x)) (txs_fault ev (onto (starts_of (tx_entry_seen x)) earlier) (n + x.repeat.times) (starts_in (map tx_entry_seen (drop (i + 1) entries))))
fault_turn ev last earlier n entries i x within is has entry =
    ap (λ ys. txs_fault ev earlier n (starts_in (map tx_entry_seen ys))) (cut_at entries i x within is)
    ∙ entry_step ev last earlier n (tx_entry_seen x) (starts_in (map tx_entry_seen (drop (i + 1) entries))) has entry

-- how many transactions there are after an entry
pub counted_after : (ev : EventList) (e : Starts) (before after : List Tx) → map transaction_seen after ≡ map transaction_seen before ++ map (transaction_of ev) (starts_of e) → length after ≡ length before + e.repeat.times
counted_after ev e before after grown =
    let ss = starts_of e in
    let times : length ss ≡ e.repeat.times = length-map (range_with_len 0 e.repeat.times) (start_of e) ∙ length-range_with_len 0 e.repeat.times in
    let all : length (map transaction_seen after) ≡ length (map transaction_seen before) + length (map (transaction_of ev) ss) = ap length grown ∙ length-append (map transaction_seen before) (map (transaction_of ev) ss) in
    omega (arith, all, times, length-map after transaction_seen, length-map before transaction_seen, length-map ss (transaction_of ev))

-- a list written back over one of its length
pub written_back : {X : Type 0} (n : ℕ) (xs ys : List X) → length xs ≡ length ys → n ≡ length xs → take n (xs ++ drop (length xs) ys) ≡ xs
written_back n xs ys same count =
    let past : length ys ≤ length xs = omega arith in
    let whole : length xs ≤ n = omega arith in
    ap (λ zs. take n (xs ++ zs)) (drop_all (length xs) ys past) ∙ ap (take n) (append-nil xs) ∙ take_all n xs whole
