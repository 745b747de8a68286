mod SpareLemmas
