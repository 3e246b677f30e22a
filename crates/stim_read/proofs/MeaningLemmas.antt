-- What the objects of a stimulus mean, by what their members mean.
use Rattle.std.proofs.Common.{◌≡◌, ℕ, true, false, List, codes, Some, None, refl}
use Rattle.serde_json.specs.Data.{Data}
use Rattle.serde_json.specs.Find.{get}
use Rattle.stim_read.specs.Parts.{◌>>=◌, is_object_of, items_in, number_at}
use Rattle.stim_read.specs.Amounts.{version_in}
use Rattle.stim_read.specs.CycleText.{Entry, Words, entry_keys, cycles_keys, entry_in, givens_at, inputs_in, memories_in, cycles_by, cycles_in}
use Rattle.stim_read.specs.RunsText.{run_keys, run_in, run_list_in, runs_keys, runs_in}
use Rattle.stim_read.specs.declared.amounts.Version.{Version}
use Rattle.stim_read.specs.declared.given.Given.{Given}

pub entry_shapeless : (version : Version) (value : Data) → is_object_of entry_keys value ≡ false → entry_in version value ≡ None
entry_shapeless version value shape = rw shape refl

pub entry_no_from : (version : Version) (value : Data) → is_object_of entry_keys value ≡ true → number_at (codes "from") value ≡ None → entry_in version value ≡ None
entry_no_from version value shape from = rw (shape, from) refl

pub entry_no_given : (version : Version) (value : Data) (n : ℕ) → is_object_of entry_keys value ≡ true → number_at (codes "from") value ≡ Some n → givens_at version (codes "set") value ≡ None → entry_in version value ≡ None
entry_no_given version value n shape from given = rw (shape, from, given) refl

pub entry_is : (version : Version) (value : Data) (n : ℕ) (gs : List Given) → is_object_of entry_keys value ≡ true → number_at (codes "from") value ≡ Some n → givens_at version (codes "set") value ≡ Some gs
    → entry_in version value ≡ Some (record { from = n; given = gs })
entry_is version value n gs shape from given = rw (shape, from, given) refl

pub cycles_shapeless : (value : Data) → is_object_of cycles_keys value ≡ false → cycles_in value ≡ None
cycles_shapeless value shape = rw shape refl

pub cycles_no_version : (value : Data) → is_object_of cycles_keys value ≡ true → version_in value ≡ None → cycles_in value ≡ None
cycles_no_version value shape version = rw (shape, version) refl

pub cycles_are : (value : Data) (v : Version) → is_object_of cycles_keys value ≡ true → version_in value ≡ Some v → cycles_in value ≡ cycles_by v value
cycles_are value v shape version = rw (shape, version) refl

pub no_count : (v : Version) (value : Data) → number_at (codes "cycles") value ≡ None → cycles_by v value ≡ None
no_count v value count = rw count refl

pub no_inputs : (v : Version) (value : Data) (n : ℕ) → number_at (codes "cycles") value ≡ Some n → inputs_in v value ≡ None → cycles_by v value ≡ None
no_inputs v value n count inputs = rw (count, inputs) refl

pub no_memories : (v : Version) (value : Data) (n : ℕ) (es : List Entry) → number_at (codes "cycles") value ≡ Some n → inputs_in v value ≡ Some es → memories_in v (get (codes "memories") value) ≡ None → cycles_by v value ≡ None
no_memories v value n es count inputs memories = rw (count, inputs, memories) refl

pub by_parts : (v : Version) (value : Data) (n : ℕ) (es : List Entry) (ms : List Words) → number_at (codes "cycles") value ≡ Some n → inputs_in v value ≡ Some es → memories_in v (get (codes "memories") value) ≡ Some ms
    → cycles_by v value ≡ Some (record { cycles = n; inputs = es; memories = ms })
by_parts v value n es ms count inputs memories = rw (count, inputs, memories) refl

-- ---- runs side by side

pub run_shapeless : (version : Version) (value : Data) → is_object_of run_keys value ≡ false → run_in version value ≡ None
run_shapeless version value shape = rw shape refl

pub run_is : (version : Version) (value : Data) → is_object_of run_keys value ≡ true → run_in version value ≡ cycles_by version value
run_is version value shape = rw shape refl

pub runs_shapeless : (value : Data) → is_object_of runs_keys value ≡ false → runs_in value ≡ None
runs_shapeless value shape = rw shape refl

pub runs_no_version : (value : Data) → is_object_of runs_keys value ≡ true → version_in value ≡ None → runs_in value ≡ None
runs_no_version value shape version = rw (shape, version) refl

pub runs_no_list : (value : Data) (v : Version) → is_object_of runs_keys value ≡ true → version_in value ≡ Some v → (get (codes "runs") value >>= items_in) ≡ None → runs_in value ≡ None
runs_no_list value v shape version list = rw (shape, version, list) refl

pub runs_are : (value : Data) (v : Version) (items : List Data) → is_object_of runs_keys value ≡ true → version_in value ≡ Some v → (get (codes "runs") value >>= items_in) ≡ Some items → runs_in value ≡ run_list_in v items
runs_are value v items shape version list = rw (shape, version, list) refl
