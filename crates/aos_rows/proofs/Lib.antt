mod Unkept
