-- What each call of a core answers and leaves.
use Rattle.std.specs.Prelude.{◌≡◌, ℕ, ◌+◌, ◌-◌, ◌<◌, true, false, List, [], ◌∷◌, ◌++◌, length, replicate, slice_set, Option, Some, None}
use Rattle.std.specs.Map.{keys_of}
use Rattle.fv_plane.specs.Picture.{Picture}
use Rattle.fv_plane.specs.declared.key.Key.{Key}
use Rattle.clip_graph.specs.Plan.{Application}
use Rattle.frame_cache.specs.Cached.{Cached, at_key, without_key, fronted, put_first, dropped_key}
use Rattle.inst_table.specs.declared.place.Place.{Place}
use Rattle.inst_table.specs.declared.place.Slot.{Slot}
use Rattle.inst_table.specs.declared.place.Slot.TheVariants.{Free, Leased as LeasedTo}
use Rattle.inst_table.specs.Places.{slot_at, with_slot}
use Rattle.serve_machine.specs.declared.event.Event.TheVariants.{Hit, Claim, Enter, Leave, Publish, Abandon, Take, Deliver, Fail}
use Rattle.serve_machine.specs.declared.event.WindowStop.{WindowStop}
use Rattle.serve_machine.specs.SerialRun.{eviction}
use Rattle.serve_core.specs.declared.answers.Ask.{Ask}
use Rattle.serve_core.specs.declared.answers.Ask.TheVariants.{Hit as Found, Claimed, Taken, Stopped}
use Rattle.serve_core.specs.declared.answers.Admitted.{Admitted}
use Rattle.serve_core.specs.declared.answers.Admitted.TheVariants.{Leased, Busy, Stopped as Refused}
use Rattle.serve_core.specs.CoreValue.{CoreValue}
use Rattle.serve_core.specs.Sources.{place_of}
use Rattle.serve_machine.specs.Machine.{kept_stop}

module _ {I : Type 0} where
  -- c is the core before a call, and d the core after it
  abbrev pub Asked : CoreValue I → ℕ → Key → Ask → CoreValue I → Type 0
  Asked c w k (Found x) d =
      (c.stop ≡ None) × (at_key k c.cache ≡ Some x)
      × (d ≡ record c { cache = fronted k c.cache; journal = c.journal ++ Hit w k ∷ [] })
  Asked c w k Claimed d =
      (c.stop ≡ None) × (at_key k c.cache ≡ None) × (at_key k c.claims ≡ None)
      × (d ≡ record c { claims = c.claims ++ (k, w) ∷ []; journal = c.journal ++ Claim w k ∷ [] })
  Asked c w k (Taken v) d = (c.stop ≡ None) × (at_key k c.cache ≡ None) × (at_key k c.claims ≡ Some v) × (d ≡ c)
  Asked c w k (Stopped why) d = (c.stop ≡ Some why) × (d ≡ c)

  abbrev pub Admits : CoreValue I → ℕ → ℕ → Admitted I → CoreValue I → Type 0
  Admits c w i (Leased l) d =
      let p = place_of c.fixed.plan w i in
      (c.stop ≡ None) × (l.place ≡ p) × (slot_at p c.table ≡ Some (Free l.value))
      × (d ≡ record c { table = with_slot p (LeasedTo w) c.table; journal = c.journal ++ Enter w i p.instance ∷ [] })
  Admits c w i (Busy v) d =
      (c.stop ≡ None) × (slot_at (place_of c.fixed.plan w i) c.table ≡ Some (LeasedTo v)) × (d ≡ c)
  Admits c w i (Refused why) d = (c.stop ≡ Some why) × (d ≡ c)

  abbrev pub after_leave : CoreValue I → ℕ → Place → I → CoreValue I
  after_leave c w p x =
      record c { table = with_slot p (Free x) c.table; journal = c.journal ++ Leave w p.node p.instance ∷ [] }

  abbrev pub after_publish : CoreValue I → ℕ → Key → Picture → CoreValue I
  after_publish c w k x = record c {
    cache = put_first c.fixed.capacity k x c.cache;
    claims = without_key k c.claims;
    journal = c.journal ++ (eviction w (dropped_key c.fixed.capacity c.cache) ++ Publish w k ∷ []);
  }

  abbrev pub after_abandon : CoreValue I → ℕ → Key → CoreValue I
  after_abandon c w k = record c { claims = without_key k c.claims; journal = c.journal ++ Abandon w k ∷ [] }

  -- the least output that is not taken
  abbrev pub next_output : CoreValue I → ℕ
  next_output c = c.fixed.first + length c.outputs.taken

  abbrev pub TookOutput : CoreValue I → ℕ → Option ℕ → CoreValue I → Type 0
  TookOutput c w None d = ((c.stop ≡ None) → length c.outputs.taken ≡ c.fixed.count) × (d ≡ c)
  TookOutput c w (Some n) d =
      (c.stop ≡ None) × (length c.outputs.taken < c.fixed.count) × (n ≡ next_output c)
      × (d ≡ record c {
        outputs = record { taken = c.outputs.taken ++ w ∷ []; frames = c.outputs.frames };
        journal = c.journal ++ Take w n ∷ [];
      })

  abbrev pub after_deliver : CoreValue I → ℕ → ℕ → Picture → CoreValue I
  after_deliver c w n x = record c {
    outputs = record { taken = c.outputs.taken; frames = slice_set c.outputs.frames (n - c.fixed.first) (Some x) };
    journal = c.journal ++ Deliver w n ∷ [];
  }

  abbrev pub after_fail : CoreValue I → ℕ → WindowStop → CoreValue I
  after_fail c w why = record c {
    failed = slice_set c.failed w true;
    stop = Some (kept_stop c.stop why);
    journal = c.journal ++ Fail w why ∷ [];
  }

  abbrev pub after_begin : CoreValue I → ℕ → ℕ → CoreValue I
  after_begin c first count = record c {
    fixed = record c.fixed { first = first; count = count; opening = keys_of c.cache };
    outputs = record { taken = []; frames = replicate count None };
    failed = replicate c.fixed.workers false;
    stop = None;
    journal = [];
  }

  abbrev pub after_end : CoreValue I → CoreValue I
  after_end c = record c {
    fixed = record c.fixed { first = 0; count = 0 };
    outputs = record { taken = []; frames = [] };
    failed = [];
    stop = None;
    journal = [];
  }

abbrev pub made : {I : Type 0} → List Application → ℕ → Cached → ℕ → List (Place × Slot I) → CoreValue I
made plan root cache workers table = record {
  fixed = record {
    plan = plan;
    root = root;
    workers = workers;
    capacity = cache.capacity;
    first = 0;
    count = 0;
    opening = [];
  };
  cache = cache.pairs;
  claims = [];
  table = table;
  outputs = record { taken = []; frames = [] };
  failed = [];
  stop = None;
  journal = [];
}
