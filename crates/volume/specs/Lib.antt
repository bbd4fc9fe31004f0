-- The specs of `volume`: the tests of a directory's records and the pointer count that its descriptor names.
pub mod Volume
