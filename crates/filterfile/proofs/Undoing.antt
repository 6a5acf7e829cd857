-- Writing a file and reading it undo each other.
use Rattle.std.proofs.Common.{◌≡◌, ℕ, suc, List, [], ◌∷◌, ◌++◌, length, sym, refl, ap, ◌∙◌, subst, arith}
use Rattle.std.proofs.lemmas.List.{append_assoc, append-nil}
use Rattle.std.specs.List.{flat_map}
use Rattle.family.specs.declared.clauses.Clause.{Clause}
use Rattle.fields.specs.Fields.{Octets}
use Rattle.fields.specs.Reading.{Read}
use Rattle.fields.specs.Undoing.{RecordLaws}
use Rattle.fields.proofs.NumberBytes.{octets_behind}
use Rattle.filterfile.specs.AcceptedFiles.{Laid, none, next, Accepted}
use Rattle.filterfile.specs.WrittenFiles.{clause_bytes, file_bytes, WrittenBack, ReadBack, ClausesFit}
use Rattle.filterfile.proofs.Accepting.{read_if_accepted, accepted_if_read}

module _ {R A : Type 0} {RegionFits : R → Type 0} {ActionFits : A → Type 0} {region_of : List ℕ → Read R} {action_of : List ℕ → Read A} {region_bytes : R → List ℕ} {action_bytes : A → List ℕ} (region : RecordLaws RegionFits region_of region_bytes) (action : RecordLaws ActionFits action_of action_bytes) where
  laid-back : (clauses : List (Clause R A)) → ClausesFit RegionFits ActionFits clauses → (last : List ℕ) → Laid region_of action_of (flat_map (clause_bytes region_bytes action_bytes) clauses ++ last) clauses last
  laid-back [] fit last = none
  laid-back (c ∷ clauses) fit last =
      let others = flat_map (clause_bytes region_bytes action_bytes) clauses in
      let r = region_bytes c.region in
      let a = action_bytes c.action in
      let first = fit 0 c (omega arith) in
      let front : (r ++ a) ++ others ++ last ≡ r ++ (a ++ (others ++ last)) = simp append_assoc in
      subst (λ l. Laid region_of action_of l (c ∷ clauses) last) (sym front)
      (next (region.read_back c.region first.0 (a ++ (others ++ last))) (action.read_back c.action first.1 (others ++ last)) (laid-back clauses (λ k d within. fit (suc k) d (omega (arith, within))) last))

  pub file-back : (code : ℕ) (clauses : List (Clause R A)) (default : A) → ClausesFit RegionFits ActionFits clauses → ActionFits default → ReadBack region_bytes action_bytes region_of action_of code clauses default
  file-back code clauses default fit last memory few room =
      read_if_accepted region_of action_of code memory (file_bytes region_bytes action_bytes code clauses default) clauses default
      (record {
        body = flat_map (clause_bytes region_bytes action_bytes) clauses ++ action_bytes default;
        last = action_bytes default;
        head = refl;
        laid = laid-back clauses fit (action_bytes default);
        default = ap action_of (sym (append-nil (action_bytes default))) ∙ action.read_back default last [];
        limit = few;
        room = room;
      })

  laid_kept : {bytes last : List ℕ} {clauses : List (Clause R A)} → Laid region_of action_of bytes clauses last → Octets bytes → (bytes ≡ flat_map (clause_bytes region_bytes action_bytes) clauses ++ last) × Octets last
  laid_kept none all = (refl, all)
  laid_kept (next {bytes = bytes} {middle = middle} {rest = rest} {last = last} {region = r} {action = a} {clauses = clauses} reads acts later) all =
      let front = region.written_back bytes all r middle reads in
      let inner : Octets middle = octets_behind (region_bytes r) middle (subst Octets front all) in
      let behind = action.written_back middle inner a rest acts in
      let tail : Octets rest = octets_behind (action_bytes a) rest (subst Octets behind inner) in
      let others = laid_kept later tail in
      let xs = flat_map (clause_bytes region_bytes action_bytes) clauses in
      let whole : region_bytes r ++ (action_bytes a ++ (xs ++ last)) ≡ (region_bytes r ++ action_bytes a) ++ xs ++ last = simp append_assoc in
      (front ∙ ap (λ l. region_bytes r ++ l) (behind ∙ ap (λ l. action_bytes a ++ l) others.0) ∙ whole, others.1)

  accepted_kept : (code memory : ℕ) (bytes : List ℕ) (clauses : List (Clause R A)) (default : A) → Octets bytes → Accepted region_of action_of code memory bytes clauses default → bytes ≡ file_bytes region_bytes action_bytes code clauses default
  accepted_kept code memory bytes clauses default all file =
      let told : Octets (code ∷ length clauses ∷ file.body) = subst Octets file.head all in
      let body = laid_kept file.laid told.1.1 in
      let last = action.written_back file.last body.1 default [] file.default ∙ append-nil (action_bytes default) in
      file.head ∙ ap (λ l. code ∷ length clauses ∷ l) (body.0 ∙ ap (λ l. flat_map (clause_bytes region_bytes action_bytes) clauses ++ l) last)

  pub file-kept : (code : ℕ) (clauses : List (Clause R A)) (default : A) → WrittenBack region_bytes action_bytes region_of action_of code clauses default
  file-kept code clauses default memory bytes all read =
      accepted_kept code memory bytes clauses default all (accepted_if_read region_of action_of code memory bytes clauses default read)
