mod Alone
mod Asked
